-- The elements of a slice of bytes are bytes.
use Rattle.std.proofs.Common.{ℕ, ◌<◌, List, get_or}
use Rattle.std.proofs.lemmas.List.{get_or_default}
use Rattle.msg_codec.specs.Bytes.{AreBytes}

pub are_bytes : (bytes : List ℕ) → ((i : ℕ) → get_or bytes i 0 < 256) → AreBytes bytes
are_bytes bytes each k d lt = rw (get_or_default bytes k d 0 lt) (each k)
