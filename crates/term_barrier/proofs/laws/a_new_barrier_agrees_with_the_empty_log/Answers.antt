use Rattle.term_barrier.proofs.Barriers.Agrees.{agrees_fresh}
use Rattle.term_barrier.proofs.laws.a_new_barrier_agrees_with_the_empty_log.Goals as goal

pub returns : goal.returns
returns c = agrees_fresh
