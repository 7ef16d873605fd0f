use Rattle.ygm_run.proofs.Ending.Reported.{noted_by}
use Rattle.ygm_run.proofs.running.report.Goals as goal

pub returns-in-Err-clause-noted : goal.returns-in-Err-clause-noted
returns-in-Err-clause-noted g c =
    noted_by g.N.Sink.holds g.N.Sink.faults c.args.notes.now c.write_all-in-Err.new.sink c.write_all-in-Err.result _ _ c.as_bytes-in-Err.ensures.value c.write_all-in-Err.ensures.done c.write_all-in-Err.ensures.cut_off
