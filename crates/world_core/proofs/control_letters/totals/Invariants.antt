use Rattle.std.proofs.Common.{◌≡◌, ◌*◌, ◌≤◌, take}
use Rattle.world_core.specs.Counts.{totals}
use Rattle.world_core.proofs.control_letters.totals.Given as goal

abbrev pub invariant-loop-entry : goal.invariant-loop-entry
invariant-loop-entry l = record {
  value : l.count ≡ totals l.to (take l.entry-index l.log);
  few : l.count ≤ l.entry-index * 0xffff_ffff_ffff_ffff;
}
