use Rattle.std.proofs.Common.{◌≡◌, ◌≤◌, take}
use Rattle.world_core.specs.Pairs.{sent_number}
use Rattle.world_core.proofs.search.sent_number.Given as goal

abbrev pub invariant-loop-k : goal.invariant-loop-k
invariant-loop-k l = record {
  value : l.count ≡ sent_number l.rank (take l.k l.letters);
  few : l.count ≤ l.k;
}
