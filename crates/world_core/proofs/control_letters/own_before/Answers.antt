use Rattle.std.proofs.Common.{refl, sym, ap, ◌∙◌, arith}
use Rattle.std.proofs.lemmas.Option.{slice_get_read}
use Rattle.world_core.specs.Pairs.{own_count}
use Rattle.world_core.proofs.Counts.Stepwise.{before_here, before_past, counts_next}
use Rattle.world_core.proofs.Pairs.Numbers.{sent_number-nil}
use Rattle.world_core.proofs.Pairs.Stepwise.{own_next}
use Rattle.world_core.proofs.control_letters.own_before.Goals as goal
use Rattle.world_core.proofs.control_letters.own_before.Goals.{then-puts_count+else-left-eq0, else-puts_count}

pub loop-entry-init : goal.loop-entry-init
loop-entry-init c = record { value = sym (sent_number-nil c.args.rank); few = omega arith; left = omega arith }

pub returns-then-left-eq0 : goal.returns-then-left-eq0
returns-then-left-eq0 c =
    let read = slice_get_read c.args.log.now _ c.loop-entry.entry-index c.entry-item.result refl (omega arith) c.entry-item.is in
    c.loop-entry.invariant.value
    ∙ sym (ap (own_count c.args.rank) (before_here c.args.q c.args.log.now c.loop-entry.entry-index c.entry-item.result read (sym c.puts_count.ensures ∙ c.if-puts_count.true) (omega arith)))

pub loop-entry-preserved : goal.loop-entry-preserved
loop-entry-preserved c =
    let read = slice_get_read c.args.log.now _ c.loop-entry.entry-index c.entry-item.result refl (omega arith) c.entry-item.is in
    let next = own_next c.args.rank c.args.log.now c.loop-entry.entry-index c.entry-item.result read in
    let counted = counts_next c.args.log.now c.loop-entry.entry-index c.entry-item.result read in
    record {
      value = omega arith;
      few = omega arith;
      left = elim c.if-puts_count.branch [
        | then-puts_count+else-left-eq0 w ↦ let one = rw (sym c.puts_count.ensures ∙ w.if-puts_count.true) at counted in omega arith
        | else-puts_count w ↦ let none = rw (sym c.puts_count.ensures ∙ w.if-puts_count.false) at counted in omega arith
      ];
    }

pub returns : goal.returns
returns c =
    c.loop-entry.invariant.value
    ∙ sym (ap (own_count c.args.rank) (before_past c.args.q c.args.log.now c.loop-entry.entry-index (omega arith) (omega arith)))
