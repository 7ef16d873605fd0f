use Rattle.term_barrier.proofs.CompleteRun.FromAccounts.{complete_run}
use Rattle.term_barrier.proofs.laws.accounts_and_quiet_cuts_make_a_complete_run.Goals as goal

pub returns : goal.returns
returns g c = complete_run
