-- Only private functions cite this: the jobs of all ranks.
use Rattle.std.specs.Prelude.{◌≡◌, ◌⊎◌, ℕ, ◌<◌, List, [], Option, None, Some, Result, Ok, Err, IfSome, IsOk, ⊤, length, map, slice_get}
use Rattle.ygm_io.specs.Content.{ExposedBytes}
use Rattle.ygm_route.specs.declared.scheme.Scheme.{Scheme}
use Rattle.ygm_route.specs.Layout.{Shape}
use Rattle.world_core.specs.Limits.{most_letters, most_rounds}
use Rattle.world_core.specs.Plain.{Plain, fresh_links, state_of}
use Rattle.world_core.specs.Post.{PostState}
use Rattle.comm_rank.specs.declared.fault.CommFault.{CommFault}
use Rattle.comm_rank.specs.declared.fault.CommFault.TheVariants.{CountFull as CommFull}
use Rattle.comm_rank.specs.Agrees.{Agrees}
use Rattle.comm_rank.specs.Fault.{IfCountFull}
use Rattle.comm_rank.specs.Rank.{Rank, fresh_rank}
use Rattle.term_barrier.specs.Barriers.{BarrierState, fresh_barrier}
use Rattle.counting_set.specs.Counting.{Counts, counting_apply}
use Rattle.ygm_run.specs.declared.job.Step.{Step}
use Rattle.ygm_run.specs.declared.job.Step.TheVariants.{Finished, Going}
use Rattle.ygm_run.specs.declared.ranks.RankRun.{RankRun}
use Rattle.ygm_run.specs.declared.run_job.JobFault.{JobFault}
use Rattle.ygm_run.specs.declared.run_job.JobFault.TheVariants.{Bad, CountFull, NoMemory, Read}
use Rattle.ygm_run.specs.declared.status.InputFault.{InputFault}
use Rattle.ygm_run.specs.JobEnds.{fault_of}
use Rattle.ygm_run.specs.RankJobs.{HasFinished, InJob, JobState, fresh_job, left_in}
use Rattle.ygm_run.specs.ReadLines.{IsFullFile}

-- how a job has ended, if it has, after a turn that came to this
abbrev pub ended_by : Option (Result (Unit {0}) CommFault) → Result Step CommFault → Option (Result (Unit {0}) CommFault)
ended_by was (Ok Going) = was
ended_by was (Ok Finished) = Some (Ok tt)
ended_by was (Err fault) = Some (Err fault)

-- what holds of a rank's job, by how it has ended, if it has
abbrev pub IsByEnd : {S : Type 0} → (S → ExposedBytes) → (S → ℕ) → ExposedBytes → Option (Result (Unit {0}) CommFault)
    → JobState → Rank Counts → BarrierState → PostState → Option S → Type 0
IsByEnd left faults content None job me barrier post source = InJob left faults content job me barrier post source
IsByEnd left faults content (Some (Ok done)) job me barrier post source = HasFinished left faults content job me barrier post source
IsByEnd left faults content (Some (Err fault)) job me barrier post source = IfCountFull fault (IsFullFile content)

-- The job of a rank, this one of a world in this layout.
pub record IsRun {S : Type 0} (left : S → ExposedBytes) (faults : S → ℕ) (layout : Shape) (rank : ℕ) (content : ExposedBytes)
    (run : RankRun) (post : PostState) (source : Option S) : Type 0 where
  pub here : run.comm.here ≡ rank
  pub layout_is : run.comm.layout ≡ layout
  pub by_end : IsByEnd left faults content run.ended run.job run.comm run.barrier post source

-- There is a job for each rank, over the source of its number, if there is one. `start` are the sources as they were at
-- first.
pub record AreRuns {S : Type 0} (left : S → ExposedBytes) (faults : S → ℕ) (layout : Shape) (start : List S)
    (runs : List RankRun) (links : Plain) (sources : List S) : Type 0 where
  pub all : length runs ≡ layout.ranks
  pub same_world : links.world.layout ≡ layout
  pub each : (rank : ℕ) (run : RankRun) → slice_get runs rank ≡ Some run →
      IsRun left faults layout rank (left_in left (slice_get start rank)) run (state_of links) (slice_get sources rank)

-- a job that has read nothing, of a rank that has sent and run nothing and has entered no barrier
pub record IsFreshRun (layout : Shape) (scheme : Scheme) (rank : ℕ) (run : RankRun) : Type 0 where
  pub job : run.job ≡ fresh_job
  pub comm : run.comm ≡ fresh_rank layout scheme rank most_letters [] None
  pub agrees : Agrees counting_apply (λ _. []) run.comm []
  pub barrier : run.barrier ≡ fresh_barrier layout rank most_rounds
  pub going : run.ended ≡ None

-- a new world: such a job for each rank, and links into which nothing was put
pub record AreFresh (layout : Shape) (runs : List RankRun) (links : Plain) : Type 0 where
  pub scheme : Scheme
  pub ring : ℕ
  pub batches : ℕ
  pub links_are : links ≡ fresh_links layout scheme ring batches
  pub all : length runs ≡ layout.ranks
  pub each : (rank : ℕ) (run : RankRun) → slice_get runs rank ≡ Some run → IsFreshRun layout scheme rank run

-- ---- how they ended

-- A rank's count of letters stopped it, at this limit. Or, where no count did, memory ran out, or a stop was met.
abbrev pub IsStop : List RankRun → JobFault → Type 0
IsStop runs (CountFull rank at) = (run : RankRun) × (slice_get runs rank ≡ Some run) × (run.ended ≡ Some (Err (CommFull at)))
IsStop runs (Read rank) = ⊥
IsStop runs (Bad rank line why) = ⊥
IsStop runs NoMemory = ⊤

-- all that have ended have finished
abbrev pub NoneStopped : List RankRun → Type 0
NoneStopped runs = (rank : ℕ) (run : RankRun) → slice_get runs rank ≡ Some run → IfSome run.ended IsOk

-- This rank is the lowest whose input has a fault, which is this one.
pub record IsLowestInput (runs : List RankRun) (rank : ℕ) (found : InputFault) : Type 0 where
  pub run : RankRun
  pub run_is : slice_get runs rank ≡ Some run
  pub fault : run.job.fault ≡ Some found
  pub none_below : (lower : ℕ) (other : RankRun) → lower < rank → slice_get runs lower ≡ Some other → other.job.fault ≡ None

-- no input has a fault
abbrev pub NoFaults : List RankRun → Type 0
NoFaults runs = (rank : ℕ) (run : RankRun) → slice_get runs rank ≡ Some run → run.job.fault ≡ None

-- All finished without a fault, and these are what the ranks keep.
pub record AllWell (runs : List RankRun) (shards : List Counts) : Type 0 where
  pub none_stopped : NoneStopped runs
  pub no_faults : NoFaults runs
  pub shards_are : shards ≡ map (λ (run : RankRun). run.comm.contents) runs

-- A rank stopped; or none did, and the fault is that of the lowest rank whose input has one.
abbrev pub EndsBy : List RankRun → JobFault → Type 0
EndsBy runs fault = IsStop runs fault
    ⊎ (NoneStopped runs × ((rank : ℕ) × (found : InputFault) × (fault ≡ fault_of rank found) × IsLowestInput runs rank found))
