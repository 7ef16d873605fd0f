-- Decoding a value from the beginning of bytes: the value and the length of its encoding, or the first fault met.
use Rattle.std.specs.Prelude.{◌≡◌, ℕ, ◌+◌, List, length, take, drop, Option, Some, None, Result, Ok, Err, nat_lt, ◌==◌, if◌then◌else◌}
use Rattle.std.specs.Int.{w32, w64, from_le_bytes}
use Rattle.msg_codec.specs.declared.wire.WireFault.{WireFault}
use Rattle.msg_codec.specs.declared.wire.WireFault.TheVariants.{Short, TooLong, NoMemory}
use Rattle.msg_codec.specs.Limits.{max_body}

infixl 10 ◌>>=◌
abbrev pub ◌>>=◌ : {A B : Type 0} → Result A WireFault → (A → Result B WireFault) → Result B WireFault
(Ok x) >>= f = f x
(Err e) >>= f = Err e

-- A number of eight bytes, the least byte first.
unfoldable pub number_reading : List ℕ → Result (ℕ × ℕ) WireFault
number_reading bytes = if nat_lt (length bytes) 8 then Err Short else Ok (from_le_bytes w64 bytes, 8)

-- The length that the first four bytes encode, and then that many bytes.
unfoldable pub stated : List ℕ → ℕ
stated bytes = from_le_bytes w32 bytes

unfoldable pub body_reading : List ℕ → Result (List ℕ × ℕ) WireFault
body_reading bytes =
    if nat_lt (length bytes) 4 then Err Short
    else if nat_lt max_body (stated bytes) then Err TooLong
    else if nat_lt (length (drop 4 bytes)) (stated bytes) then Err Short
    else Ok (take (stated bytes) (drop 4 bytes), 4 + stated bytes)

-- The first value, and then the second from where the first ends.
unfoldable pub pair_reading : {A B : Type 0} → (List ℕ → Result (A × ℕ) WireFault) → (List ℕ → Result (B × ℕ) WireFault) → List ℕ → Result ((A × B) × ℕ) WireFault
pair_reading first second bytes = do
  a ← first bytes
  b ← second (drop a.1 bytes)
  Ok ((a.0, b.0), a.1 + b.1)

-- What a function returned, seen by view, is what decoding gives, unless it is out of memory.
abbrev pub Fails : {Y : Type 0} → WireFault → Result Y WireFault → Type 0
Fails NoMemory read = Unit {0}
Fails Short read = read ≡ Err Short
Fails TooLong read = read ≡ Err TooLong

abbrev pub GivesAs : {X Y : Type 0} → (X → Y) → Result X WireFault → Result Y WireFault → Type 0
GivesAs view (Ok x) read = read ≡ Ok (view x)
GivesAs view (Err e) read = Fails e read

abbrev pub Gives : {X : Type 0} → Result X WireFault → Result X WireFault → Type 0
Gives {X} result read = GivesAs (λ (x : X). x) result read

-- What a function that takes no memory returned, seen by view, is what decoding gives.
abbrev pub IsReading : {X Y : Type 0} → (X → Y) → Result X WireFault → Result Y WireFault → Type 0
IsReading view (Ok x) read = read ≡ Ok (view x)
IsReading view (Err fault) read = read ≡ Err fault

-- The value whose encoding is all of the bytes.
abbrev pub if_whole : {A : Type 0} → ℕ → Result (A × ℕ) WireFault → Option A
if_whole len (Ok found) = if found.1 == len then Some found.0 else None
if_whole len (Err fault) = None

abbrev pub whole : {A : Type 0} → (List ℕ → Result (A × ℕ) WireFault) → List ℕ → Option A
whole reading bytes = if_whole (length bytes) (reading bytes)
