use Rattle.bag_set.proofs.Bags.Inserted.{bag_holds}
use Rattle.bag_set.proofs.bag_laws.a_bag_holds_what_was_inserted.Goals as goal

pub returns : goal.returns
returns c = bag_holds
