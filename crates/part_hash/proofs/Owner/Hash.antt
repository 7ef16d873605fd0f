-- The hash of bytes, one byte after another.
use Rattle.std.proofs.Common.{◌≡◌, ℕ, ◌*◌, ◌%◌, ◌^◌, ◌<◌, List, [], ◌∷◌, ◌++◌, fold, bit_xor, mod-lt, arith}
use Rattle.std.proofs.lemmas.List.Sums.{fold-append}
use Rattle.part_hash.specs.Owner.{fnv, fnv_step, offset_basis}

-- a byte more
pub fnv-append : (bytes : List ℕ) (byte : ℕ) → fnv (bytes ++ byte ∷ []) ≡ bit_xor (fnv bytes) byte * 1099511628211 % 2 ^ 64
unfolding fnv_step
fnv-append bytes byte = fold-append fnv_step offset_basis bytes (byte ∷ [])

step_below : (hash byte : ℕ) → fnv_step hash byte < 2 ^ 64
unfolding fnv_step
step_below hash byte = mod-lt (bit_xor hash byte * 1099511628211) (omega arith)

steps_below : (hash : ℕ) (bytes : List ℕ) → hash < 2 ^ 64 → fold fnv_step hash bytes < 2 ^ 64
steps_below hash [] lt = lt
steps_below hash (byte ∷ bytes) lt = steps_below (fnv_step hash byte) bytes (step_below hash byte)

-- a hash has 64 bits
pub fnv_below : (bytes : List ℕ) → fnv bytes < 2 ^ 64
fnv_below bytes = steps_below offset_basis bytes (omega arith)
