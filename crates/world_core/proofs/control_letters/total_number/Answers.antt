use Rattle.std.proofs.Common.{arith, sym, ◌∙◌}
use Rattle.msg_codec.specs.Control.{is_total}
use Rattle.msg_codec.specs.Letter.{letter_of}
use Rattle.list_facts.proofs.Filters.{count_yes, count_no}
use Rattle.world_core.proofs.control_letters.total_number.Goals as goal
use Rattle.world_core.proofs.control_letters.total_number.Goals.{then-is_total, else-is_total}

pub loop-k-preserved : goal.loop-k-preserved
loop-k-preserved c =
    elim c.if-is_total.branch [
      | then-is_total w ↦
          let more = count_yes is_total c.args.letters.now c.loop-k.k (letter_of c.letter_at.result) c.letter_at.ensures (sym c.is_total.ensures ∙ w.if-is_total.true) in
          record { value = omega arith; few = omega arith }
      | else-is_total w ↦
          let same = count_no is_total c.args.letters.now c.loop-k.k (letter_of c.letter_at.result) c.letter_at.ensures (sym c.is_total.ensures ∙ w.if-is_total.false) in
          record { value = omega arith; few = omega arith }
    ]
