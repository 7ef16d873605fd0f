use Rattle.std.proofs.Common.{◌≡◌, false, take}
use Rattle.std.specs.List.{list_any}
use Rattle.msg_codec.specs.Control.{is_count}
use Rattle.world_core.proofs.control_letters.has_count.Given as goal

abbrev pub invariant-loop-k : goal.invariant-loop-k
invariant-loop-k l = list_any is_count (take l.k l.letters) ≡ false
