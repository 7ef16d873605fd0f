use Rattle.counting_set.proofs.Counts.Sums.{counts_are_sums}
use Rattle.counting_set.proofs.laws.counts_are_sums.Goals as goal

pub returns : goal.returns
returns c = counts_are_sums
