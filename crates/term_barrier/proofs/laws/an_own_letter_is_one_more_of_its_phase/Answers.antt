use Rattle.term_barrier.proofs.Account.Sent.{account_sent}
use Rattle.term_barrier.proofs.laws.an_own_letter_is_one_more_of_its_phase.Goals as goal

pub returns : goal.returns
returns g c = account_sent g.H.Handler.apply g.H.Handler.start
