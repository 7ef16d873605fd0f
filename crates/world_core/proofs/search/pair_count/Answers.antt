use Rattle.std.proofs.Common.{arith, sym, ◌∙◌}
use Rattle.msg_codec.specs.Letter.{letter_of}
use Rattle.world_core.specs.Pairs.{is_of_pair}
use Rattle.list_facts.proofs.Filters.{count_yes, count_no}
use Rattle.world_core.proofs.search.pair_count.Goals as goal
use Rattle.world_core.proofs.search.pair_count.Goals.{then-is_of_pair, else-is_of_pair}

pub loop-i-preserved : goal.loop-i-preserved
loop-i-preserved c =
    elim c.if-is_of_pair.branch [
      | then-is_of_pair w ↦
          let more = count_yes (is_of_pair c.args.from c.args.to) c.args.letters.now c.loop-i.i (letter_of c.letter_at.result) c.letter_at.ensures (sym c.is_of_pair.ensures ∙ w.if-is_of_pair.true) in
          record { value = omega arith; few = omega arith }
      | else-is_of_pair w ↦
          let same = count_no (is_of_pair c.args.from c.args.to) c.args.letters.now c.loop-i.i (letter_of c.letter_at.result) c.letter_at.ensures (sym c.is_of_pair.ensures ∙ w.if-is_of_pair.false) in
          record { value = omega arith; few = omega arith }
    ]
