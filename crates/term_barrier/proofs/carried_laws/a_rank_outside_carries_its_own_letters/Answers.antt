use Rattle.term_barrier.proofs.Carried.Outside.{carries_entered, carries_new, carries_sent}
use Rattle.term_barrier.proofs.carried_laws.a_rank_outside_carries_its_own_letters.Goals as goal

pub returns-clause-new : goal.returns-clause-new
returns-clause-new g c = carries_new g.H.Handler.apply g.H.Handler.start

pub returns-clause-sent : goal.returns-clause-sent
returns-clause-sent g c = carries_sent g.H.Handler.apply g.H.Handler.start

pub returns-clause-entered : goal.returns-clause-entered
returns-clause-entered g c = carries_entered g.H.Handler.apply g.H.Handler.start
