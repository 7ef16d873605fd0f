use Rattle.std.proofs.Common.{◌≡◌, false, not, nat_lt}
use Rattle.list_facts.specs.Below.{some_below}
use Rattle.world_core.specs.Counts.{counts}
use Rattle.world_core.specs.World.{log_of}
use Rattle.world_core.proofs.world.World.is_complete.Given as goal

abbrev pub invariant-loop-rank : goal.invariant-loop-rank
invariant-loop-rank l = some_below (λ rank. not (nat_lt l.q (counts (log_of l.self rank)))) l.rank ≡ false
