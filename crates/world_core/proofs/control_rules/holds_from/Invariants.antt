use Rattle.std.proofs.Common.{◌≡◌, ℕ, ◌<◌, nat_lt, false, length}
use Rattle.world_core.specs.Local.{to_forward}
use Rattle.world_core.specs.Trial.{local_tried}
use Rattle.world_core.proofs.control_rules.holds_from.Given as goal

abbrev pub invariant-loop-to : goal.invariant-loop-to
invariant-loop-to l = (to : ℕ) → to < l.to → nat_lt 0 (length (to_forward (local_tried l.me) l.from to)) ≡ false
