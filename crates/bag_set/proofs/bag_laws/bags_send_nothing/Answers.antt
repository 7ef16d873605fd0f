use Rattle.bag_set.proofs.Bags.Inserted.{handed-none}
use Rattle.bag_set.proofs.bag_laws.bags_send_nothing.Goals as goal

pub returns : goal.returns
returns c = handed-none
