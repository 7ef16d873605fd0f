use Rattle.std.proofs.Common.{not}
use Rattle.std.specs.Prelude.{bytes_eq}
use Rattle.list_facts.proofs.Sublist.{sublist_filter}
use Rattle.bag_set.proofs.Sets.Has.{erased_others, has_absent, has_there, inserted_known, inserted_new}
use Rattle.bag_set.proofs.set_laws.sets_keep_their_order.Goals as goal

pub returns-clause-known : goal.returns-clause-known
returns-clause-known c = λ item items there. inserted_known item items (has_there items item there)

pub returns-clause-new : goal.returns-clause-new
returns-clause-new c = λ item items absent. inserted_new item items (has_absent items item absent)

pub returns-clause-erased : goal.returns-clause-erased
returns-clause-erased c = λ item items. sublist_filter (λ other. not (bytes_eq item other)) items

pub returns-clause-others : goal.returns-clause-others
returns-clause-others c = erased_others
