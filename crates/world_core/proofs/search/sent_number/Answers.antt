use Rattle.std.proofs.Common.{sym, arith}
use Rattle.msg_codec.specs.Letter.{letter_of}
use Rattle.world_core.proofs.Pairs.Numbers.{sent_number-nil}
use Rattle.world_core.proofs.Pairs.Stepwise.{sent_next}
use Rattle.world_core.proofs.search.sent_number.Goals as goal
use Rattle.world_core.proofs.search.sent_number.Goals.{then-is_own, else-is_own}

pub loop-k-init : goal.loop-k-init
loop-k-init c = record { value = sym (sent_number-nil c.args.rank); few = omega arith }

pub loop-k-preserved : goal.loop-k-preserved
loop-k-preserved c =
    let next = sent_next c.args.rank c.args.letters.now c.loop-k.k (letter_of c.letter_at.result) c.is_own.result c.letter_at.ensures (sym c.is_own.ensures) in
    elim c.if-is_own.branch [
      | then-is_own w ↦ let more = rw w.if-is_own.true at next in record { value = omega arith; few = omega arith }
      | else-is_own w ↦ let same = rw w.if-is_own.false at next in record { value = omega arith; few = omega arith }
    ]
