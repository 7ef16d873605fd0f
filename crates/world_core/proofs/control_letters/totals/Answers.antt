use Rattle.std.proofs.Common.{refl, arith}
use Rattle.std.proofs.lemmas.Option.{slice_get_read}
use Rattle.world_core.proofs.Counts.Stepwise.{totals_next}
use Rattle.world_core.proofs.control_letters.totals.Goals as goal

pub loop-entry-preserved : goal.loop-entry-preserved
loop-entry-preserved c =
    let read = slice_get_read c.args.log.now _ c.loop-entry.entry-index c.entry-item.result refl (omega arith) c.entry-item.is in
    let next = totals_next c.args.to c.args.log.now c.loop-entry.entry-index c.entry-item.result read in
    record { value = omega arith; few = omega arith }
