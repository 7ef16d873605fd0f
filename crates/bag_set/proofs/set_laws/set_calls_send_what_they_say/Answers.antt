use Rattle.std.proofs.Common.{arith}
use Rattle.owner_send.proofs.Item.Again.{item_again}
use Rattle.bag_set.proofs.set_laws.set_calls_send_what_they_say.Goals as goal

pub returns-clause-insert : goal.returns-clause-insert
returns-clause-insert c = λ to from item short. item_again item (omega (arith, short))

pub returns-clause-erase : goal.returns-clause-erase
returns-clause-erase c = λ to from item short. item_again item (omega (arith, short))
