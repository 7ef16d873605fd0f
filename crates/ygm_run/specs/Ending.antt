-- How a run ends, and why.
use Rattle.std.specs.Prelude.{◌≡◌, ◌⊎◌, ℕ, ◌<◌, Bool, true, false, List, [], ◌∷◌, Option, Result, Err, IsOk, Some, length, map, slice_get, take, ⊤}
use Rattle.ygm_io.specs.Content.{ExposedBytes, AppendedTo}
use Rattle.ygm_io.specs.Rising.{Rose}
use Rattle.ygm_run.specs.declared.status.InputFault.{InputFault}
use Rattle.ygm_run.specs.declared.status.InputFault.TheVariants.{Read, Bad as BadInput}
use Rattle.line_input.specs.declared.why.LineWhy.{LineWhy}
use Rattle.ygm_run.specs.declared.status.Status.{Status}
use Rattle.ygm_run.specs.declared.status.Status.TheVariants.{Done, Usage, OpenFault, ReadFault, BadLine, WriteFault, NoMemory, CountFull}
use Rattle.ygm_run.specs.declared.words.UsageKind.{UsageKind}
use Rattle.ygm_run.specs.Inputs.{AllRead, IsFullAtRank, IsLowestFault}
use Rattle.ygm_run.specs.Verdict.{Verdict, Bad, Text}
use Rattle.ygm_run.specs.Words.{Asked}

-- ---- the order of refusals

-- a place in the order of refusals: with which statuses a run ends here, and what holds if it goes on
pub record Stage : Type 1 where
  pub refuses : Status → Type 0
  pub passes : Type 0

-- The run ended at one of the stages, after it had passed all before it; or it passed all of them and is done.
abbrev pub EndsIn : List Stage → Status → Type 0
EndsIn [] status = status ≡ Done
EndsIn (stage ∷ later) status = stage.refuses status ⊎ (stage.passes × EndsIn later status)

-- why a run ended so, by its stages; memory may run out at any of them
abbrev pub Ends : List Stage → Status → Type 0
Ends stages status = (status ≡ NoMemory) ⊎ EndsIn stages status

-- The words are refused, and no file was opened; or they are accepted. `order` is what they ask for.
abbrev pub words : {S : Type 0} → Result Asked UsageKind → List S → Stage
words order sources = record {
  refuses = λ status. (kind : UsageKind) × (status ≡ Usage kind) × (order ≡ Err kind) × (sources ≡ []);
  passes = IsOk order;
}

-- The file of this number is the first that couldn't be opened: those before it were, and no byte of them was read.
-- `contents` are the bytes of the files. A source shows what remains in it (`left`) and its count of faults.
pub record IsFirstUnopened {S : Type 0} (left : S → ExposedBytes) (faults : S → ℕ)
    (contents : List ExposedBytes) (sources : List S) (file : ℕ) : Type 0 where
  pub within : file < length contents
  pub opened_before : length sources ≡ file
  pub unread : map left sources ≡ take file contents
  pub no_fault : (rank : ℕ) (source : S) → slice_get sources rank ≡ Some source → faults source ≡ 0

-- A file couldn't be opened, and the count of faults of the files rose; or each was opened, and the count stands.
abbrev pub opens : {S : Type 0} → (S → ExposedBytes) → (S → ℕ) → List ExposedBytes → List S → ℕ → ℕ → Stage
opens left faults contents sources count count_now = record {
  refuses = λ status. (file : ℕ) × (status ≡ OpenFault file)
      × IsFirstUnopened left faults contents sources file × Rose count count_now;
  passes = (length sources ≡ length contents) × (count_now ≡ count);
}

-- The count of a rank, one of so many, is full. That a run goes on says nothing of the counts.
abbrev pub counts : ℕ → List ExposedBytes → Stage
counts ranks contents = record {
  refuses = λ status. (rank limit : ℕ) × (status ≡ CountFull rank limit) × IsFullAtRank ranks contents rank limit;
  passes = ⊤;
}

-- the status of a rank's fault
abbrev pub of_input : ℕ → InputFault → Status
of_input rank Read = ReadFault rank
of_input rank (BadInput line why) = BadLine rank line why

-- The input of this rank, the lowest with a fault, failed; or all files were read to their ends.
abbrev pub inputs : {S : Type 0} → (List ℕ → Option LineWhy) → (S → ExposedBytes) → (S → ℕ)
    → List ExposedBytes → List S → Stage
inputs wrong left faults contents sources = record {
  refuses = λ status. (rank : ℕ) × (found : InputFault) × (status ≡ of_input rank found)
      × IsLowestFault wrong left faults contents sources rank found;
  passes = AllRead wrong left faults contents sources;
}

-- The text couldn't be written, and the sink's count of faults rose; or it was written, and the count stands.
abbrev pub writes : ℕ → ℕ → Stage
writes count count_now = record {
  refuses = λ status. (status ≡ WriteFault) × Rose count count_now;
  passes = count_now ≡ count;
}

-- ---- what was written

-- whether a run that ended so began to write its text
abbrev pub may_write : Status → Bool
may_write Done = true
may_write WriteFault = true
may_write status = false

-- the first bytes of a text were appended to what was held, and not all of them
abbrev pub FrontAppended : List ℕ → ExposedBytes → ExposedBytes → Type 0
FrontAppended text before now = (count : ℕ) × (count < length text) × AppendedTo (take count text) before now

-- A text was written: all of it where the run is done, and less than all where a write failed.
pub record IsWritten (status : Status) (text : List ℕ) (before now : ExposedBytes) : Type 0 where
  pub whole : status ≡ Done → AppendedTo text before now
  pub front : status ≡ WriteFault → FrontAppended text before now

-- What the verdict decides of a run: the text that it writes, and the bad line that it reports.
pub record FollowsVerdict (verdict : Verdict) (status : Status) (before now : ExposedBytes) : Type 0 where
  -- where the run writes, the verdict is a text, and this is what is written
  pub written : may_write status ≡ true → (text : List ℕ) × (verdict ≡ Text text) × IsWritten status text before now
  -- a bad line that is reported is the verdict's
  pub bad_line : (rank line : ℕ) (why : LineWhy) → status ≡ BadLine rank line why → verdict ≡ Bad rank line why

-- A text was appended to what a sink held: all of it, or less than all where a write failed. A sink shows what it holds
-- and its count of faults.
abbrev pub IsNoted : {N : Type 0} → (N → ExposedBytes) → (N → ℕ) → N → N → List ℕ → Type 0
IsNoted holds faults before now text = AppendedTo text (holds before) (holds now)
    ⊎ (FrontAppended text (holds before) (holds now) × Rose (faults before) (faults now))
