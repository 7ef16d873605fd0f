use Rattle.term_barrier.proofs.Waited.Polled.{polled_advances, polled_grows}
use Rattle.term_barrier.proofs.poll_laws.a_poll_runs_what_its_turn_took.Goals as goal

pub returns-clause-advanced : goal.returns-clause-advanced
returns-clause-advanced g c = polled_advances

pub returns-clause-grown : goal.returns-clause-grown
returns-clause-grown g c = polled_grows
