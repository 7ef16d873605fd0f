use Rattle.counting_set.proofs.Counts.Distinct.{no_item_stands_twice}
use Rattle.counting_set.proofs.laws.no_item_stands_twice.Goals as goal

pub returns : goal.returns
returns c = no_item_stands_twice
