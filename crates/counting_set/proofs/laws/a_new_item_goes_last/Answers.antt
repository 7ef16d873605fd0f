use Rattle.counting_set.proofs.Counts.CountIn.{count_in-added_other}
use Rattle.counting_set.proofs.Counts.Order.{items-known, items-new}
use Rattle.counting_set.proofs.laws.a_new_item_goes_last.Goals as goal

pub returns-clause-known : goal.returns-clause-known
returns-clause-known c = items-known

pub returns-clause-new : goal.returns-clause-new
returns-clause-new c = items-new

pub returns-clause-others : goal.returns-clause-others
returns-clause-others c = λ item other count contents. count_in-added_other other item count contents
