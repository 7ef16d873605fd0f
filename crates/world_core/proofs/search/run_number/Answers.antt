use Rattle.std.proofs.Common.{sym, arith}
use Rattle.msg_codec.specs.Letter.{letter_of}
use Rattle.world_core.proofs.Pairs.Numbers.{run_number-nil}
use Rattle.world_core.proofs.Pairs.Stepwise.{ran_next}
use Rattle.world_core.proofs.search.run_number.Goals as goal
use Rattle.world_core.proofs.search.run_number.Goals.{then-is_for, else-is_for}

pub loop-k-init : goal.loop-k-init
loop-k-init c = record { value = sym (run_number-nil c.args.rank); few = omega arith }

pub loop-k-preserved : goal.loop-k-preserved
loop-k-preserved c =
    let next = ran_next c.args.rank c.args.letters.now c.loop-k.k (letter_of c.letter_at.result) c.is_for.result c.letter_at.ensures (sym c.is_for.ensures) in
    elim c.if-is_for.branch [
      | then-is_for w ↦ let more = rw w.if-is_for.true at next in record { value = omega arith; few = omega arith }
      | else-is_for w ↦ let same = rw w.if-is_for.false at next in record { value = omega arith; few = omega arith }
    ]
