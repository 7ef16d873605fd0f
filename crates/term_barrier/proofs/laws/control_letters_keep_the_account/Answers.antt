use Rattle.term_barrier.proofs.CountedPlace.Put.{account_unmoved, counted_unmoved, moves_none}
use Rattle.term_barrier.proofs.laws.control_letters_keep_the_account.Goals as goal

pub returns-clause-none : goal.returns-clause-none
returns-clause-none g c = moves_none

pub returns-clause-account : goal.returns-clause-account
returns-clause-account g c = λ handler own cut phase held log entries moves account.
    account_unmoved handler held log entries moves own cut phase account

pub returns-clause-counted : goal.returns-clause-counted
returns-clause-counted g c = λ handler own begin place held log entries moves counted.
    counted_unmoved handler held log entries moves own begin place counted
