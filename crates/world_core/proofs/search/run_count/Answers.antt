use Rattle.std.proofs.Common.{refl, sym, arith}
use Rattle.std.proofs.lemmas.Option.{slice_get_read}
use Rattle.world_core.proofs.Pairs.Numbers.{run_number-nil}
use Rattle.world_core.proofs.Pairs.Stepwise.{run_next}
use Rattle.world_core.proofs.search.run_count.Goals as goal

pub loop-entry-init : goal.loop-entry-init
loop-entry-init c = record { value = sym (run_number-nil c.args.rank); few = omega arith }

pub loop-entry-preserved : goal.loop-entry-preserved
loop-entry-preserved c =
    let read = slice_get_read c.args.log.now _ c.loop-entry.entry-index c.entry-item.result refl (omega arith) c.entry-item.is in
    let next = run_next c.args.rank c.args.log.now c.loop-entry.entry-index c.entry-item.result read in
    record { value = omega arith; few = omega arith }
