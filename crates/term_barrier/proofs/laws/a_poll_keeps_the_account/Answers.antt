use Rattle.term_barrier.proofs.CountedPlace.Polled.{account_poll, count_poll, counted_poll, up_to_date_poll}
use Rattle.term_barrier.proofs.laws.a_poll_keeps_the_account.Goals as goal

pub returns-clause-up_to_date : goal.returns-clause-up_to_date
returns-clause-up_to_date g c = λ old new before after turn up same polled.
    up_to_date_poll g.H.Handler.apply g.H.Handler.start g.met.H.Handler.keeps_start old new before after turn up same polled

pub returns-clause-account : goal.returns-clause-account
returns-clause-account g c = λ own cut phase old new before after turn up same polled.
    account_poll g.H.Handler.apply g.H.Handler.start g.met.H.Handler.keeps_start old new before after turn up same polled own cut phase

pub returns-clause-counted : goal.returns-clause-counted
returns-clause-counted g c = λ own begin place old new before after turn up same polled.
    counted_poll g.H.Handler.apply g.H.Handler.start g.met.H.Handler.keeps_start old new before after turn up same polled own begin place

pub returns-clause-new_count : goal.returns-clause-new_count
returns-clause-new_count g c = λ own cut phase q old new before after turn up same polled account.
    count_poll g.H.Handler.apply g.H.Handler.start g.met.H.Handler.keeps_start old new before after turn up same polled own cut phase account q
