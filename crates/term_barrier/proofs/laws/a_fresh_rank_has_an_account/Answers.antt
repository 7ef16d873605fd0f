use Rattle.term_barrier.proofs.Account.Sent.{account_fresh}
use Rattle.term_barrier.proofs.laws.a_fresh_rank_has_an_account.Goals as goal

pub returns : goal.returns
returns g c = account_fresh
