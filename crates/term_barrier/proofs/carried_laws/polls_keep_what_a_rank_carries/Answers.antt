use Rattle.term_barrier.proofs.Carried.Polled.{carries_left, carries_waited, cuts_stay, left_number}
use Rattle.term_barrier.proofs.carried_laws.polls_keep_what_a_rank_carries.Goals as goal

pub returns-clause-waited : goal.returns-clause-waited
returns-clause-waited g c = λ own rounds old new one me before after why worked ended.
    carries_waited g.H.Handler.apply g.H.Handler.start g.met.H.Handler.keeps_start own rounds old new one me before after why worked ended

pub returns-clause-left : goal.returns-clause-left
returns-clause-left g c = λ own rounds old new one me before after number round worked ended.
    carries_left g.H.Handler.apply g.H.Handler.start g.met.H.Handler.keeps_start own rounds old new one me before after number round worked ended

pub returns-clause-number : goal.returns-clause-number
returns-clause-number g c = left_number g.H.Handler.apply g.H.Handler.start

pub returns-clause-cuts_stay : goal.returns-clause-cuts_stay
returns-clause-cuts_stay g c = cuts_stay g.H.Handler.apply g.H.Handler.start
