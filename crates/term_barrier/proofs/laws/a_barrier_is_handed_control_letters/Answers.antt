use Rattle.term_barrier.proofs.Barriers.Handed.{agrees_handed_all, rounds_letter, rounds_letters}
use Rattle.term_barrier.proofs.laws.a_barrier_is_handed_control_letters.Goals as goal

pub returns-clause-letter : goal.returns-clause-letter
returns-clause-letter c = rounds_letter

pub returns-clause-letters : goal.returns-clause-letters
returns-clause-letters c = rounds_letters

pub returns-clause-agrees : goal.returns-clause-agrees
returns-clause-agrees c = agrees_handed_all
