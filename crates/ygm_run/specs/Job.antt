-- What the job tally reads from its sources.
use Rattle.std.specs.Prelude.{◌≡◌, ℕ, ◌+◌, ◌*◌, List, Some, map, length}
use Rattle.ygm_io.specs.Content.{ExposedBytes}
use Rattle.line_input.specs.Lines.{lines_of}
use Rattle.ygm_run.specs.TallyText.{all_lines, tally_text}

-- all sources expose their bytes, and these are they
abbrev pub AreExposed : List ExposedBytes → List (List ℕ) → Type 0
AreExposed lefts bytes = lefts ≡ map Some bytes

-- the lines of each of the files
abbrev pub lines_of_each : List (List ℕ) → List (List (List ℕ))
lines_of_each bytes = map lines_of bytes

-- a bound on the letters that a rank of the job sends, by the lines of all files
abbrev pub letters_bound : List (List (List ℕ)) → ℕ
letters_bound files = 2 * length (all_lines files) + 3

-- a fact of the text of the files, where they expose their bytes
abbrev pub OfText : List ExposedBytes → (List ℕ → Type 0) → Type 0
OfText contents P = (bytes : List (List ℕ)) → AreExposed contents bytes → P (tally_text (lines_of_each bytes))
