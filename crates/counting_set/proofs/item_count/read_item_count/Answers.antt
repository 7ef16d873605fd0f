use Rattle.std.proofs.Common.{arith, rules, Some, None}
use Rattle.msg_codec.proofs.Bytes.Slices.{are_bytes}
use Rattle.counting_set.specs.ItemCount.{item_count_of}
use Rattle.counting_set.proofs.ItemCount.Whole.{found_is, none_is, short_is}
use Rattle.counting_set.proofs.item_count.read_item_count.Goals as goal

pub returns-in-Ok-clause-found : goal.returns-in-Ok-clause-found
unfolding item_count_of
returns-in-Ok-clause-found c = found_is (Some c.in-Ok.found) c.args.body.now (are_bytes c.args.body.now (λ i. omega (arith, c.type_inv.body i))) (search rules)

pub returns-in-Ok-clause-short : goal.returns-in-Ok-clause-short
unfolding item_count_of
returns-in-Ok-clause-short c = short_is (Some c.in-Ok.found) c.args.body.now (are_bytes c.args.body.now (λ i. omega (arith, c.type_inv.body i))) (search rules)

pub returns-in_default-clause-none : goal.returns-in_default-clause-none
unfolding item_count_of
returns-in_default-clause-none c = none_is None c.args.body.now (search rules)
