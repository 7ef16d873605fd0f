use Rattle.bag_set.proofs.Sets.Distinct.{no_item_is_there_twice}
use Rattle.bag_set.proofs.set_laws.no_item_is_there_twice.Goals as goal

pub returns : goal.returns
returns c = no_item_is_there_twice
