use Rattle.std.proofs.Common.{◌≡◌, ◌≤◌, take}
use Rattle.world_core.specs.Counts.{counts}
use Rattle.world_core.proofs.control_letters.counts.Given as goal

abbrev pub invariant-loop-entry : goal.invariant-loop-entry
invariant-loop-entry l = record {
  value : l.count ≡ counts (take l.entry-index l.log);
  few : l.count ≤ l.entry-index;
}
