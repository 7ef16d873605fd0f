-- The bytes of a source or a sink, where it exposes them to contracts.
use Rattle.std.specs.Prelude.{◌≡◌, ℕ, List, [], ◌++◌, Option, IfSome}
use Rattle.std.specs.Option.{option_map}
use Rattle.rising_counts.specs.Rising.{Rose}

-- the bytes that an object exposes, or none where it exposes nothing
abbrev pub ExposedBytes : Type 0
ExposedBytes = Option (List ℕ)

-- these bytes were taken from what remained: they were its prefix
abbrev pub TakenFrom : List ℕ → ExposedBytes → ExposedBytes → Type 0
TakenFrom bytes before now = before ≡ option_map (λ rest. bytes ++ rest) now

-- these bytes were appended to what was held
abbrev pub AppendedTo : List ℕ → ExposedBytes → ExposedBytes → Type 0
AppendedTo bytes before now = now ≡ option_map (λ held. held ++ bytes) before

-- nothing remains, where it is exposed
abbrev pub NothingLeft : ExposedBytes → Type 0
NothingLeft left = IfSome left (λ rest. rest ≡ [])

-- A read or a write failed: the count of faults rose, and the bytes are unchanged.
pub record CallFailed (bytes bytes_now : ExposedBytes) (faults faults_now : ℕ) : Type 0 where
  pub cause : Rose faults faults_now
  pub unchanged : bytes_now ≡ bytes
