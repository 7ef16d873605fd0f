-- The lines of bytes. A line ends at LF (10), and one CR (13) at its end isn't part of its text.
use Rattle.std.specs.Prelude.{◌≡◌, ◌≢◌, ◌==◌, ℕ, ◌+◌, List, [], ◌∷◌, All, count_by, map, length, ◌++◌, ◌<◌, ◌≤◌, Option, None, Some, nat_lt, if◌then◌else◌}
use Rattle.std.specs.Option.{option_map}
use Rattle.line_input.specs.Limits.{max_line}

-- the lines, the first with a byte put before it
abbrev pub onto_first : ℕ → List (List ℕ) → List (List ℕ)
onto_first byte [] = (byte ∷ []) ∷ []
onto_first byte (line ∷ lines) = (byte ∷ line) ∷ lines

-- the parts between LFs; what follows the last LF is a line too, unless it is empty
abbrev pub raw_lines : List ℕ → List (List ℕ)
raw_lines [] = []
raw_lines (byte ∷ bytes) = if byte == 10 then [] ∷ raw_lines bytes else onto_first byte (raw_lines bytes)

-- a raw line without the CR at its end
abbrev pub text_of : List ℕ → List ℕ
text_of [] = []
text_of (byte ∷ []) = if byte == 13 then [] else byte ∷ []
text_of (byte ∷ next ∷ bytes) = byte ∷ text_of (next ∷ bytes)

-- the texts of the lines
abbrev pub lines_of : List ℕ → List (List ℕ)
lines_of bytes = map text_of (raw_lines bytes)

-- these bytes have no LF
abbrev pub LacksLf : List ℕ → Type 0
LacksLf bytes = All (λ byte. byte ≢ 10) bytes

-- how many lines end in these bytes
abbrev pub ended_lines : List ℕ → ℕ
ended_lines bytes = count_by (λ byte. byte == 10) bytes

-- the number, from 1, of the first raw line that has too many bytes
abbrev pub first_too_long : List (List ℕ) → Option ℕ
first_too_long [] = None
first_too_long (raw ∷ raws) = if nat_lt max_line (length raw) then Some 1 else option_map (λ number. number + 1) (first_too_long raws)

-- the first raw line has too many bytes
abbrev pub StartsTooLong : List ℕ → Type 0
StartsTooLong bytes = first_too_long (raw_lines bytes) ≡ Some 1

-- no raw line has too many bytes
abbrev pub AreShort : List (List ℕ) → Type 0
AreShort raws = All (λ raw. length raw ≤ max_line) raws

-- the raw line of this number, from 1, has too many bytes, and none before it has
pub record IsFirstTooLong (raws : List (List ℕ)) (number : ℕ) : Type 0 where
  pub before : List (List ℕ)
  pub line : List ℕ
  pub later : List (List ℕ)
  pub parts : raws ≡ before ++ line ∷ later
  pub short : AreShort before
  pub long : max_line < length line
  pub number_is : number ≡ length before + 1
