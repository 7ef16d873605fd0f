use Rattle.ygm_run.proofs.Refusals.ByOrder.{refused_exactly}
use Rattle.ygm_run.proofs.words_laws.the_refusal_is_the_first_that_holds.Goals as goal

pub returns : goal.returns
returns c = refused_exactly
