use Rattle.std.proofs.Common.{◌≡◌, None, take}
use Rattle.world_core.specs.Counts.{total_taken}
use Rattle.world_core.proofs.control_letters.total_taken.Given as goal

abbrev pub invariant-loop-entry : goal.invariant-loop-entry
invariant-loop-entry l = total_taken l.here l.q (take l.entry-index l.log) ≡ None
