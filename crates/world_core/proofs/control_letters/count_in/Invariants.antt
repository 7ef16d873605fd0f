use Rattle.std.proofs.Common.{◌≡◌, ◌&&◌, nat_eq, None, take}
use Rattle.std.specs.List.{find}
use Rattle.msg_codec.specs.Control.{round_of}
use Rattle.world_core.specs.Counts.{is_count_of}
use Rattle.world_core.proofs.control_letters.count_in.Given as goal

abbrev pub invariant-loop-k : goal.invariant-loop-k
invariant-loop-k l = find (λ y. is_count_of l.rank y && nat_eq (round_of y) l.q) (take l.k l.letters) ≡ None
