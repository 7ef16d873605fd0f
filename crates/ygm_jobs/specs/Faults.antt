-- How the files of a job were read, and which fault of the ranks is reported: a full count before a fault of the input, and
-- of these the one of the lowest rank.
use Rattle.std.specs.Prelude.{◌≡◌, ◌↔◌, ℕ, ◌<◌, ◌≤◌, List, Option, None, Some, IfSome, length, map, slice_get}
use Rattle.ygm_io.specs.Content.{ExposedBytes, NothingLeft, TakenFrom}
use Rattle.line_input.specs.declared.why.LineWhy.{LineWhy}
use Rattle.line_input.specs.Lines.{ended_lines, raw_lines}
use Rattle.world_core.specs.Limits.{most_letters}
use Rattle.ygm_jobs.specs.declared.fault.InputFault.{InputFault}
use Rattle.ygm_jobs.specs.declared.fault.InputFault.TheVariants.{Read, Bad}
use Rattle.ygm_jobs.specs.BadLines.{first_wrong, good_lines, why_bad}
use Rattle.ygm_jobs.specs.Input.{input_of}
use Rattle.ygm_jobs.specs.Job.{Job}

-- all sources expose their bytes, and these are they
abbrev pub AreExposed : List ExposedBytes → List (List ℕ) → Type 0
AreExposed contents bytes = contents ≡ map Some bytes

-- the bad line that was met, if one was: its number and why it is bad
abbrev pub bad_line : Option InputFault → Option (ℕ × LineWhy)
bad_line None = None
bad_line (Some Read) = None
bad_line (Some (Bad line why)) = Some (line, why)

-- A source was read by a job to its end or to its first fault. `left` is what remains in a source, `faults` its count of
-- faults; `content` is what this one had at first, `source` the source now, and `fault` that fault.
pub record IsRead {S : Type 0} (job : Job) (left : S → ExposedBytes) (faults : S → ℕ)
    (content : ExposedBytes) (source : S) (fault : Option InputFault) : Type 0 where
  -- a read of it failed exactly where its count of faults is above 0
  pub read : (fault ≡ Some Read) ↔ (0 < faults source)
  -- where none failed, the bad line is the first one of the content, if there is one, for the reason that it has
  pub bad : faults source ≡ 0 → IfSome content (λ bytes. bad_line fault ≡ first_wrong (why_bad job) (raw_lines bytes))
  -- without a fault nothing remains
  pub to_its_end : fault ≡ None → NothingLeft (left source)
  -- what was read before a failed read has no bad line, and at most as many line ends as a rank may send letters
  pub before_read : fault ≡ Some Read → (prefix : List ℕ) × TakenFrom prefix content (left source)
      × (first_wrong (why_bad job) (raw_lines prefix) ≡ None) × (ended_lines prefix ≤ most_letters)
  -- where no read failed, at most as many lines come before a bad one as a rank may send letters
  pub few : faults source ≡ 0 → IfSome content (λ bytes. length (good_lines (why_bad job) (raw_lines bytes)) ≤ most_letters)

-- the files of the ranks, in their order, were read, each with its fault
abbrev pub AreRead : {S : Type 0} → Job → (S → ExposedBytes) → (S → ℕ) → List ExposedBytes → List S
    → (ℕ → Option InputFault) → Type 0
AreRead {S} job left faults contents sources fault =
    (rank : ℕ) (content : ExposedBytes) (source : S) → slice_get contents rank ≡ Some content → slice_get sources rank ≡ Some source
    → IsRead job left faults content source (fault rank)

-- all files were read to their ends
abbrev pub AllRead : {S : Type 0} → Job → (S → ExposedBytes) → (S → ℕ) → List ExposedBytes → List S → Type 0
AllRead job left faults contents sources = AreRead job left faults contents sources (λ rank. None)

-- all files were read, and this fault is that of the lowest rank that has one
pub record IsLowestFault {S : Type 0} (job : Job) (left : S → ExposedBytes) (faults : S → ℕ)
    (contents : List ExposedBytes) (sources : List S) (rank : ℕ) (found : InputFault) : Type 0 where
  pub fault : ℕ → Option InputFault
  pub read : AreRead job left faults contents sources fault
  pub within : rank < length sources
  pub here : fault rank ≡ Some found
  pub none_below : (lower : ℕ) → lower < rank → fault lower ≡ None

-- The count of letters of this rank, one of so many, is full, at the limit that its counter reports: by the lines of all
-- files together a rank may send more letters than it may.
pub record IsFullAtRank (job : Job) (ranks : ℕ) (contents : List ExposedBytes) (rank limit : ℕ) : Type 0 where
  pub within : rank < ranks
  pub limit_is : limit ≡ most_letters
  pub above : (bytes : List (List ℕ)) → AreExposed contents bytes → most_letters < job.most (map input_of bytes)
