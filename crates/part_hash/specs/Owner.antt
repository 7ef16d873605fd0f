-- The rank that a key belongs to: by the 64-bit FNV-1a hash of its bytes.
use Rattle.std.specs.Prelude.{ℕ, ◌*◌, ◌%◌, ◌^◌, List, fold, bit_xor}

-- the hash of no bytes
abbrev pub offset_basis : ℕ
offset_basis = 14695981039346656037

abbrev pub prime : ℕ
prime = 1099511628211

-- the hash after one byte more
unfoldable pub fnv_step : ℕ → ℕ → ℕ
fnv_step hash byte = bit_xor hash byte * prime % 2 ^ 64

abbrev pub fnv : List ℕ → ℕ
fnv bytes = fold fnv_step offset_basis bytes

abbrev pub owner_of_key : List ℕ → ℕ → ℕ
owner_of_key key ranks = fnv key % ranks
