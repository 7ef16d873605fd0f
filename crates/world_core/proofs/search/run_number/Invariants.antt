use Rattle.std.proofs.Common.{◌≡◌, ◌≤◌, take}
use Rattle.world_core.specs.Pairs.{run_number}
use Rattle.world_core.proofs.search.run_number.Given as goal

abbrev pub invariant-loop-k : goal.invariant-loop-k
invariant-loop-k l = record {
  value : l.count ≡ run_number l.rank (take l.k l.letters);
  few : l.count ≤ l.k;
}
