-- What the bytes of the files decide: the text of a job, or the bad line that it reports in its place.
use Rattle.std.specs.Prelude.{◌≡◌, ℕ, ◌+◌, ◌<◌, List, [], ◌∷◌, Option, None, Some, slice_get}
use Rattle.std.specs.Option.{option_map, option_or}
use Rattle.line_input.specs.declared.why.LineWhy.{LineWhy}
use Rattle.ygm_run.specs.BadLines.{first_wrong, tally_wrong}
use Rattle.ygm_run.specs.Job.{lines_of_each}
use Rattle.line_input.specs.Lines.{raw_lines}
use Rattle.ygm_run.specs.TallyText.{tally_text}

pub data Verdict : Type 0 where
  -- the first bad line, from 1, of this rank's file; no file of a lower rank has one
  Bad : (rank line : ℕ) → (why : LineWhy) → Verdict
  -- no file has a bad line, and this is the text
  Text : (text : List ℕ) → Verdict

-- the lowest rank whose file has a bad line, with the first such line of the file and why it is bad
abbrev pub first_bad : (List ℕ → Option LineWhy) → List (List ℕ) → Option (ℕ × (ℕ × LineWhy))
first_bad wrong [] = None
first_bad wrong (file ∷ files) =
    option_or (option_map (λ found. (0, found)) (first_wrong wrong (raw_lines file)))
    (option_map (λ found. (found.0 + 1, found.1)) (first_bad wrong files))

-- the bad line, if there is one, else the text
abbrev pub bad_or_text : Option (ℕ × (ℕ × LineWhy)) → List ℕ → Verdict
bad_or_text (Some found) text = Bad found.0 found.1.0 found.1.1
bad_or_text None text = Text text

-- the verdict of tally on files of these bytes
abbrev pub tally_verdict : List (List ℕ) → Verdict
tally_verdict files = bad_or_text (first_bad tally_wrong files) (tally_text (lines_of_each files))

-- no file has a bad line
abbrev pub AreGood : (List ℕ → Option LineWhy) → List (List ℕ) → Type 0
AreGood wrong files = (rank : ℕ) (file : List ℕ) → slice_get files rank ≡ Some file
    → first_wrong wrong (raw_lines file) ≡ None

-- This rank's file has this first bad line, for this reason, and no file of a lower rank has a bad line.
pub record IsLowestBad (wrong : List ℕ → Option LineWhy) (files : List (List ℕ))
    (rank line : ℕ) (why : LineWhy) : Type 0 where
  pub file : List ℕ
  pub file_is : slice_get files rank ≡ Some file
  pub bad : first_wrong wrong (raw_lines file) ≡ Some (line, why)
  pub good_below : (lower : ℕ) (other : List ℕ) → lower < rank → slice_get files lower ≡ Some other
      → first_wrong wrong (raw_lines other) ≡ None
