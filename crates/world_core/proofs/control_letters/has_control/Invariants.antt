use Rattle.std.proofs.Common.{◌≡◌, false, take}
use Rattle.std.specs.List.{list_any}
use Rattle.msg_codec.specs.Control.{is_control}
use Rattle.world_core.proofs.control_letters.has_control.Given as goal

abbrev pub invariant-loop-k : goal.invariant-loop-k
invariant-loop-k l = list_any is_control (take l.k l.letters) ≡ false
