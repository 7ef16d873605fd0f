use Rattle.counting_set.proofs.Counts.After.{handed-none}
use Rattle.counting_set.proofs.laws.counting_sends_nothing.Goals as goal

pub returns : goal.returns
returns c = handed-none
