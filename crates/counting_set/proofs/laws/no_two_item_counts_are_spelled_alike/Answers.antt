use Rattle.counting_set.proofs.ItemCount.Again.{item_count_is}
use Rattle.counting_set.proofs.laws.no_two_item_counts_are_spelled_alike.Goals as goal

pub returns : goal.returns
returns c = item_count_is
