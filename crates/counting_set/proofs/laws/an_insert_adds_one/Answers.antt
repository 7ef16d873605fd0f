use Rattle.counting_set.proofs.Counts.Inserts.{add_letter_adds}
use Rattle.counting_set.proofs.laws.an_insert_adds_one.Goals as goal

pub returns-clause-adds : goal.returns-clause-adds
returns-clause-adds c = add_letter_adds
