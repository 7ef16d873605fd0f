use Rattle.ygm_run.proofs.TallyRun.Run.{tally_of_run}
use Rattle.ygm_run.proofs.tally_laws.a_complete_run_is_a_tally.Goals as goal

pub returns : goal.returns
returns c = tally_of_run
