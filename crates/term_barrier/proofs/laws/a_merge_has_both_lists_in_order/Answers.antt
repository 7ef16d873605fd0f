use Rattle.term_barrier.proofs.Merge.InOrder.{merge_weight, one_in_order, other_in_order}
use Rattle.term_barrier.proofs.Merge.Joined.{merge_is_other}
use Rattle.term_barrier.proofs.laws.a_merge_has_both_lists_in_order.Goals as goal

pub returns-clause-one : goal.returns-clause-one
returns-clause-one g c = one_in_order

pub returns-clause-other : goal.returns-clause-other
returns-clause-other g c = other_in_order

pub returns-clause-weights : goal.returns-clause-weights
returns-clause-weights g c = merge_weight

pub returns-clause-with_none : goal.returns-clause-with_none
returns-clause-with_none g c = merge_is_other
