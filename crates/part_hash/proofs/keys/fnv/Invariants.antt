use Rattle.std.proofs.Common.{◌≡◌, fold, take}
use Rattle.part_hash.specs.Owner.{fnv_step, offset_basis}
use Rattle.part_hash.proofs.keys.fnv.Given as goal

abbrev pub invariant-loop-byte : goal.invariant-loop-byte
invariant-loop-byte l = l.hash ≡ fold fnv_step offset_basis (take l.byte-index l.bytes)
