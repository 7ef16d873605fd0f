use Rattle.ygm_run.proofs.TallyRun.AllLines.{lines_fit_a_count}
use Rattle.ygm_run.proofs.tally_laws.lines_fit_a_count.Goals as goal

pub returns : goal.returns
returns c = lines_fit_a_count
