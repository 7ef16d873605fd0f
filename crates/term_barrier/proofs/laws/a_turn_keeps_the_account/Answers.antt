use Rattle.term_barrier.proofs.Account.Turned.{account_turn, counted_turn}
use Rattle.term_barrier.proofs.laws.a_turn_keeps_the_account.Goals as goal

pub returns-clause-account : goal.returns-clause-account
returns-clause-account g c = λ own cut phase old new before after turn up same turned.
    account_turn g.H.Handler.apply g.H.Handler.start g.met.H.Handler.keeps_start old new before after turn up same turned own cut phase

pub returns-clause-counted : goal.returns-clause-counted
returns-clause-counted g c = λ own begin place old new before after turn up same turned.
    counted_turn g.H.Handler.apply g.H.Handler.start g.met.H.Handler.keeps_start old new before after turn up same turned own begin place
