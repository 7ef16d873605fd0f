use Rattle.term_barrier.proofs.Account.Kept.{account_same}
use Rattle.term_barrier.proofs.CountedPlace.Kept.{account_next}
use Rattle.term_barrier.proofs.laws.a_counted_place_ends_a_phase.Goals as goal

pub returns-clause-next : goal.returns-clause-next
returns-clause-next g c = account_next

pub returns-clause-same : goal.returns-clause-same
returns-clause-same g c = account_same
