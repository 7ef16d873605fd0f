-- How a job over files ends: with the shards of all ranks, or without.
use Rattle.std.specs.Prelude.{ℕ, List, Option, map, ⊤}
use Rattle.ygm_io.specs.Content.{ExposedBytes}
use Rattle.counting_set.specs.Counting.{Counts}
use Rattle.ygm_run.specs.declared.run_job.JobFault.{JobFault}
use Rattle.ygm_run.specs.declared.run_job.JobFault.TheVariants.{Bad as JobBad, CountFull as JobFull, NoMemory as JobNoMemory, Read as JobRead}
use Rattle.ygm_run.specs.declared.status.InputFault.{InputFault}
use Rattle.ygm_run.specs.declared.status.InputFault.TheVariants.{Bad, Read}
use Rattle.line_input.specs.declared.why.LineWhy.{LineWhy}
use Rattle.ygm_run.specs.declared.status.Status.{Status}
use Rattle.ygm_run.specs.declared.status.Status.TheVariants.{BadLine, CountFull, NoMemory, ReadFault}
use Rattle.ygm_run.specs.BadLines.{tally_wrong}
use Rattle.ygm_run.specs.Inputs.{AllRead, IsFullAtRank, IsLowestFault}
use Rattle.ygm_run.specs.Job.{AreExposed, lines_of_each}
use Rattle.ygm_run.specs.TallyRun.{IsTallyRun}

-- the fault of a rank's input, as one of the job
abbrev pub fault_of : ℕ → InputFault → JobFault
fault_of rank Read = JobRead rank
fault_of rank (Bad line why) = JobBad rank line why

-- the status of a job that has no shards
abbrev pub status_of : JobFault → Status
status_of (JobFull rank at) = CountFull rank at
status_of (JobRead rank) = ReadFault rank
status_of (JobBad rank line why) = BadLine rank line why
status_of JobNoMemory = NoMemory

-- Why the job of so many ranks over these files has no shards. Memory may run out at any time.
abbrev pub JobStops : {S : Type 0} → (List ℕ → Option LineWhy) → (S → ExposedBytes) → (S → ℕ) → ℕ
    → List ExposedBytes → List S → JobFault → Type 0
JobStops wrong left faults ranks contents sources (JobFull rank at) = IsFullAtRank ranks contents rank at
JobStops wrong left faults ranks contents sources (JobRead rank) = IsLowestFault wrong left faults contents sources rank Read
JobStops wrong left faults ranks contents sources (JobBad rank line why) =
    IsLowestFault wrong left faults contents sources rank (Bad line why)
JobStops wrong left faults ranks contents sources JobNoMemory = ⊤

-- The job of so many ranks ended with these shards: every file was read to its end, and where the files expose their bytes,
-- the shards are those of a complete run over their lines. `start` are the sources as they were at first.
pub record HasRun {S : Type 0} (left : S → ExposedBytes) (faults : S → ℕ) (ranks : ℕ) (start sources : List S)
    (shards : List Counts) : Type 0 where
  pub read : AllRead tally_wrong left faults (map left start) sources
  pub complete : (bytes : List (List ℕ)) → AreExposed (map left start) bytes → IsTallyRun ranks (lines_of_each bytes) shards
