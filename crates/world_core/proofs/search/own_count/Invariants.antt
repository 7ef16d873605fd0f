use Rattle.std.proofs.Common.{◌≡◌, ◌*◌, ◌≤◌, take}
use Rattle.world_core.specs.Pairs.{own_count}
use Rattle.world_core.proofs.search.own_count.Given as goal

abbrev pub invariant-loop-entry : goal.invariant-loop-entry
invariant-loop-entry l = record {
  value : l.count ≡ own_count l.rank (take l.entry-index l.log);
  few : l.count ≤ l.entry-index * 0xffff_ffff_ffff_ffff;
}
