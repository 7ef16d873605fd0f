use Rattle.std.proofs.Common.{◌≡◌, ◌&&◌, nat_eq, false, take}
use Rattle.std.specs.List.{list_any}
use Rattle.world_core.specs.Pairs.{is_data}
use Rattle.world_core.proofs.data_rules.has_own.Given as goal

abbrev pub invariant-loop-k : goal.invariant-loop-k
invariant-loop-k l = list_any (λ x. is_data x && nat_eq x.from l.rank) (take l.k l.letters) ≡ false
