-- How the files of the ranks were read, and which of their faults is reported.
use Rattle.std.specs.Prelude.{◌≡◌, ◌↔◌, ℕ, ◌<◌, ◌≤◌, List, Option, None, Some, IfSome, length, slice_get}
use Rattle.ygm_io.specs.Content.{ExposedBytes, TakenFrom, NothingLeft}
use Rattle.ygm_run.specs.declared.status.InputFault.{InputFault}
use Rattle.ygm_run.specs.declared.status.InputFault.TheVariants.{Read, Bad}
use Rattle.line_input.specs.declared.why.LineWhy.{LineWhy}
use Rattle.world_core.specs.Limits.{most_letters}
use Rattle.ygm_run.specs.BadLines.{first_wrong, good_lines}
use Rattle.ygm_run.specs.Job.{AreExposed, letters_bound, lines_of_each}
use Rattle.line_input.specs.Lines.{raw_lines, ended_lines}

-- what remains of a content: some prefix of it was taken
abbrev pub IsRest : ExposedBytes → ExposedBytes → Type 0
IsRest content left = (front : List ℕ) × TakenFrom front content left

-- the bad line that was met, if one was: its number and why it is bad
abbrev pub bad_line : Option InputFault → Option (ℕ × LineWhy)
bad_line None = None
bad_line (Some Read) = None
bad_line (Some (Bad line why)) = Some (line, why)

-- A source was read to its end or to its first fault. `wrong` says which lines are bad, `left` is what remains in a
-- source, `faults` its count of faults; `content` is what this one had at first, `source` the source now, and `fault` that
-- fault.
pub record IsRead {S : Type 0} (wrong : List ℕ → Option LineWhy) (left : S → ExposedBytes) (faults : S → ℕ)
    (content : ExposedBytes) (source : S) (fault : Option InputFault) : Type 0 where
  -- a read of it failed exactly where its count of faults is above 0
  pub read : (fault ≡ Some Read) ↔ (0 < faults source)
  -- where none failed, the bad line is the first one of the content, if there is one, for the reason that it has
  pub bad : faults source ≡ 0 → IfSome content (λ bytes. bad_line fault ≡ first_wrong wrong (raw_lines bytes))
  -- without a fault nothing remains
  pub to_its_end : fault ≡ None → NothingLeft (left source)
  -- what was read before a failed read has no bad line, and at most as many line ends as a rank may send letters
  pub before_read : fault ≡ Some Read → (front : List ℕ) × TakenFrom front content (left source)
      × (first_wrong wrong (raw_lines front) ≡ None) × (ended_lines front ≤ most_letters)
  -- where no read failed, at most as many lines come before a bad one as a rank may send letters
  pub few : faults source ≡ 0 → IfSome content (λ bytes. length (good_lines wrong (raw_lines bytes)) ≤ most_letters)

-- the files of the ranks, in their order, were read, each with its fault
abbrev pub AreRead : {S : Type 0} → (List ℕ → Option LineWhy) → (S → ExposedBytes) → (S → ℕ) → List ExposedBytes → List S
    → (ℕ → Option InputFault) → Type 0
AreRead {S} wrong left faults contents sources fault =
    (rank : ℕ) (content : ExposedBytes) (source : S) → slice_get contents rank ≡ Some content → slice_get sources rank ≡ Some source
    → IsRead wrong left faults content source (fault rank)

-- all files were read to their ends
abbrev pub AllRead : {S : Type 0} → (List ℕ → Option LineWhy) → (S → ExposedBytes) → (S → ℕ)
    → List ExposedBytes → List S → Type 0
AllRead wrong left faults contents sources = AreRead wrong left faults contents sources (λ rank. None)

-- all files were read, and this fault is that of the lowest rank that has one
pub record IsLowestFault {S : Type 0} (wrong : List ℕ → Option LineWhy) (left : S → ExposedBytes) (faults : S → ℕ)
    (contents : List ExposedBytes) (sources : List S) (rank : ℕ) (found : InputFault) : Type 0 where
  pub fault : ℕ → Option InputFault
  pub read : AreRead wrong left faults contents sources fault
  pub within : rank < length sources
  pub here : fault rank ≡ Some found
  pub none_below : (lower : ℕ) → lower < rank → fault lower ≡ None

-- The count of letters of this rank, one of so many, is full, at the limit that its counter reports: by the lines of all
-- files together a rank may send more letters than it may.
pub record IsFullAtRank (ranks : ℕ) (contents : List ExposedBytes) (rank limit : ℕ) : Type 0 where
  pub within : rank < ranks
  pub limit_is : limit ≡ most_letters
  pub above : (bytes : List (List ℕ)) → AreExposed contents bytes → most_letters < letters_bound (lines_of_each bytes)

-- what remains of each file that was opened is a suffix of it
abbrev pub AreRests : {S : Type 0} → (S → ExposedBytes) → List ExposedBytes → List S → Type 0
AreRests {S} left contents sources =
    (rank : ℕ) (content : ExposedBytes) (source : S) → slice_get contents rank ≡ Some content → slice_get sources rank ≡ Some source
    → IsRest content (left source)
