use Rattle.part_hash.proofs.Owner.Hash.{fnv-append, fnv_below}
use Rattle.part_hash.proofs.laws.a_hash_grows_by_a_byte.Goals as goal

pub returns-clause-byte : goal.returns-clause-byte
returns-clause-byte c = fnv-append

pub returns-clause-below : goal.returns-clause-below
returns-clause-below c = fnv_below
