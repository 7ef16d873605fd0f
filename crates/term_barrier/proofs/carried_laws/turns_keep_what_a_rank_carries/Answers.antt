use Rattle.term_barrier.proofs.Carried.Turned.{carries_still, carries_turned}
use Rattle.term_barrier.proofs.carried_laws.turns_keep_what_a_rank_carries.Goals as goal

pub returns-clause-turned : goal.returns-clause-turned
returns-clause-turned g c = λ own rounds barrier old new before after turn worked ended carries.
    carries_turned g.H.Handler.apply g.H.Handler.start g.met.H.Handler.keeps_start own rounds barrier old new before after turn worked ended carries

pub returns-clause-other : goal.returns-clause-other
returns-clause-other g c = carries_still g.H.Handler.apply g.H.Handler.start
