use Rattle.std.proofs.Common.{◌≡◌, ◌≤◌, length, take}
use Rattle.world_core.specs.Pairs.{of_pair}
use Rattle.world_core.proofs.search.pair_count.Given as goal

abbrev pub invariant-loop-i : goal.invariant-loop-i
invariant-loop-i l = record {
  value : l.count ≡ length (of_pair l.from l.to (take l.i l.letters));
  few : l.count ≤ l.i;
}
