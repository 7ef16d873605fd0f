use Rattle.ygm_run.proofs.Refusals.ByOrder.{accepted_exactly}
use Rattle.ygm_run.proofs.words_laws.words_that_are_accepted.Goals as goal

pub returns : goal.returns
returns c = accepted_exactly
