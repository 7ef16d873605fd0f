use Rattle.term_barrier.proofs.Barriers.Rounds.{first_is, just_left, known_is, last_is, left_is, not_taken, sums_are, taken}
use Rattle.term_barrier.proofs.laws.a_barrier_knows_the_rounds_of_its_log.Goals as goal

pub returns-clause-known : goal.returns-clause-known
returns-clause-known c = known_is

pub returns-clause-first : goal.returns-clause-first
returns-clause-first c = first_is

pub returns-clause-left : goal.returns-clause-left
returns-clause-left c = left_is

pub returns-clause-last : goal.returns-clause-last
returns-clause-last c = last_is

pub returns-clause-taken : goal.returns-clause-taken
returns-clause-taken c = λ barrier me modest agrees from q within. taken barrier me modest agrees from within q

pub returns-clause-not_taken : goal.returns-clause-not_taken
returns-clause-not_taken c = λ barrier me modest agrees from q within. not_taken barrier me modest agrees from within q

pub returns-clause-sums : goal.returns-clause-sums
returns-clause-sums c = sums_are

pub returns-clause-has_left : goal.returns-clause-has_left
returns-clause-has_left c = λ barrier me round modest agrees. just_left barrier me modest agrees round
