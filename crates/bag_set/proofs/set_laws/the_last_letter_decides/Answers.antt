use Rattle.bag_set.proofs.Sets.LastLetter.{after_erase, after_insert, after_neither}
use Rattle.bag_set.proofs.set_laws.the_last_letter_decides.Goals as goal

pub returns-clause-insert : goal.returns-clause-insert
returns-clause-insert c = after_insert

pub returns-clause-erase : goal.returns-clause-erase
returns-clause-erase c = after_erase

pub returns-clause-neither : goal.returns-clause-neither
returns-clause-neither c = after_neither
