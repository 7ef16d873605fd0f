use Rattle.owner_send.proofs.Item.Again.{item_again}
use Rattle.owner_send.proofs.laws.items_are_read_again.Goals as goal

pub returns : goal.returns
returns c = item_again
