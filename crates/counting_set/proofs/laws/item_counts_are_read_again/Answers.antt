use Rattle.counting_set.proofs.ItemCount.Again.{item_count_again}
use Rattle.counting_set.proofs.laws.item_counts_are_read_again.Goals as goal

pub returns : goal.returns
returns c = item_count_again
