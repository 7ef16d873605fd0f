use Rattle.term_barrier.proofs.Barriers.Agrees.{agrees_gained, agrees_handed, agrees_put, agrees_turned}
use Rattle.term_barrier.proofs.laws.a_barrier_stays_in_agreement.Goals as goal

pub returns-clause-gained : goal.returns-clause-gained
returns-clause-gained g c = agrees_gained

pub returns-clause-put : goal.returns-clause-put
returns-clause-put g c = agrees_put

pub returns-clause-turned : goal.returns-clause-turned
returns-clause-turned g c = agrees_turned

pub returns-clause-handed : goal.returns-clause-handed
returns-clause-handed g c = agrees_handed
