use Rattle.std.proofs.Common.{◌≡◌, None, take}
use Rattle.world_core.specs.Counts.{count_taken}
use Rattle.world_core.proofs.control_letters.count_taken.Given as goal

abbrev pub invariant-loop-entry : goal.invariant-loop-entry
invariant-loop-entry l = count_taken l.rank l.q (take l.entry-index l.log) ≡ None
