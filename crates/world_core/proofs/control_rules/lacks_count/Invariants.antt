use Rattle.std.proofs.Common.{◌≡◌, ℕ, ◌<◌, not, false, is_some}
use Rattle.world_core.specs.Counts.{count_taken}
use Rattle.world_core.proofs.control_rules.lacks_count.Given as goal

abbrev pub invariant-loop-rank : goal.invariant-loop-rank
invariant-loop-rank l = (rank : ℕ) → rank < l.rank → not (is_some (count_taken rank l.q l.me.log.now)) ≡ false
