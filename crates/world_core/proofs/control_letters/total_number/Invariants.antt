use Rattle.std.proofs.Common.{◌≡◌, ◌≤◌, filter, length, take}
use Rattle.msg_codec.specs.Control.{is_total}
use Rattle.world_core.proofs.control_letters.total_number.Given as goal

abbrev pub invariant-loop-k : goal.invariant-loop-k
invariant-loop-k l = record {
  value : l.count ≡ length (filter is_total (take l.k l.letters));
  few : l.count ≤ l.k;
}
