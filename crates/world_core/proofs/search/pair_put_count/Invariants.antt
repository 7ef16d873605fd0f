use Rattle.std.proofs.Common.{◌≡◌, ◌*◌, ◌≤◌, length, take}
use Rattle.world_core.specs.Pairs.{pair_put}
use Rattle.world_core.proofs.search.pair_put_count.Given as goal

abbrev pub invariant-loop-entry : goal.invariant-loop-entry
invariant-loop-entry l = record {
  value : l.count ≡ length (pair_put l.from l.to (take l.entry-index l.log));
  few : l.count ≤ l.entry-index * 0xffff_ffff_ffff_ffff;
}
