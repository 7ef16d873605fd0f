use Rattle.term_barrier.proofs.Account.Turned.{agrees_up_to_date, up_to_date_turn}
use Rattle.term_barrier.proofs.laws.a_rank_is_up_to_date_with_its_log.Goals as goal

pub returns-clause-agrees : goal.returns-clause-agrees
returns-clause-agrees g c = agrees_up_to_date g.H.Handler.apply g.H.Handler.start

pub returns-clause-turned : goal.returns-clause-turned
returns-clause-turned g c = up_to_date_turn g.H.Handler.apply g.H.Handler.start g.met.H.Handler.keeps_start
