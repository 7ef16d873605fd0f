use Rattle.std.proofs.Common.{◌≡◌, ◌*◌, ◌≤◌, take}
use Rattle.world_core.specs.Pairs.{run_count}
use Rattle.world_core.proofs.search.run_count.Given as goal

abbrev pub invariant-loop-entry : goal.invariant-loop-entry
invariant-loop-entry l = record {
  value : l.count ≡ run_count l.rank (take l.entry-index l.log);
  few : l.count ≤ l.entry-index * 0xffff_ffff_ffff_ffff;
}
