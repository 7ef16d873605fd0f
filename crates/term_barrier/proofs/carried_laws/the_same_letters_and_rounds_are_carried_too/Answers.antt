use Rattle.term_barrier.proofs.Carried.Same.{carries_same}
use Rattle.term_barrier.proofs.carried_laws.the_same_letters_and_rounds_are_carried_too.Goals as goal

pub returns : goal.returns
returns g c = carries_same
