use Rattle.counting_set.proofs.Counts.Counted.{adds_of_one_are_counted}
use Rattle.counting_set.proofs.laws.adds_of_one_are_counted.Goals as goal

pub returns : goal.returns
returns c = adds_of_one_are_counted
