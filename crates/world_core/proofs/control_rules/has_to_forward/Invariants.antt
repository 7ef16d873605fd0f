use Rattle.std.proofs.Common.{◌≡◌, ℕ, ◌<◌, nat_lt, false, length}
use Rattle.list_facts.specs.Below.{some_below}
use Rattle.world_core.specs.Local.{to_forward}
use Rattle.world_core.specs.Trial.{local_tried}
use Rattle.world_core.proofs.control_rules.has_to_forward.Given as goal

abbrev pub invariant-loop-from : goal.invariant-loop-from
invariant-loop-from l = (from : ℕ) → from < l.from →
    some_below (λ to. nat_lt 0 (length (to_forward (local_tried l.me) from to))) l.me.layout.now.ranks ≡ false
