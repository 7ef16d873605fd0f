use Rattle.std.proofs.Common.{arith}
use Rattle.owner_send.proofs.Item.Again.{item_again}
use Rattle.bag_set.proofs.bag_laws.a_bag_insert_inserts.Goals as goal

pub returns : goal.returns
returns c = λ to from item short. item_again item (omega (arith, short))
