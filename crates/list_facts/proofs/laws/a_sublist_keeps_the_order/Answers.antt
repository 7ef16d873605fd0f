use Rattle.std.specs.Bool.{IsTrue}
use Rattle.list_facts.proofs.Sublist.{sublist_contains, sublist_pairs}
use Rattle.list_facts.proofs.laws.a_sublist_keeps_the_order.Goals as goal

pub returns-clause-pairs : goal.returns-clause-pairs
returns-clause-pairs g c test part whole h all = sublist_pairs (λ one later. IsTrue (test one later)) h all

pub returns-clause-elements : goal.returns-clause-elements
returns-clause-elements g c part whole x h among = sublist_contains x h among
