use Rattle.counting_set.proofs.Counts.HasCounts.{counts_up_to_the_limit, letters_add_up}
use Rattle.counting_set.proofs.laws.letters_add_up.Goals as goal

pub returns-clause-below : goal.returns-clause-below
returns-clause-below c = letters_add_up

pub returns-clause-limit : goal.returns-clause-limit
returns-clause-limit c = counts_up_to_the_limit
