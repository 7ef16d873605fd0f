-- Complete runs of a job, and the law that each job obeys.
use Rattle.std.specs.Prelude.{◌≡◌, ℕ, ◌<◌, ◌≤◌, List, All, Option, Some, length, slice_get}
use Rattle.msg_codec.specs.declared.letter.Letter.{Letter}
use Rattle.ygm_route.specs.Layout.{max_ranks}
use Rattle.world_core.specs.Limits.{most_letters}
use Rattle.comm_rank.specs.Fold.{fold_from}
use Rattle.term_barrier.specs.CompleteRun.{Arrivals, IsCompleteRun, OwnLetters, earlier}
use Rattle.ygm_jobs.specs.declared.shard.JobShard.{JobShard}
use Rattle.ygm_jobs.specs.Input.{Input, input_at}
use Rattle.ygm_jobs.specs.Job.{IsGood, Job}
use Rattle.ygm_jobs.specs.Shards.{shard_apply, shard_start}

-- What arrived at the ranks, by rank and phase, is a complete run of the job's own letters over these inputs.
pub record IsRunOf (job : Job) (ranks : ℕ) (inputs : List Input) (arrivals : Arrivals) : Type 0 where
  pub own : OwnLetters
  pub is_own : (rank : ℕ) → rank < ranks → job.IsOwn ranks rank (input_at inputs rank) (arrivals rank) (own rank)
  pub complete : IsCompleteRun shard_apply ranks job.barriers (job.start ranks) own arrivals

-- there is a shard for each rank: what that of a new job becomes as the rank's letters arrive
pub record AreFolds (job : Job) (ranks : ℕ) (arrivals : Arrivals) (shards : List JobShard) : Type 0 where
  pub all : length shards ≡ ranks
  pub each : (rank : ℕ) (shard : JobShard) → slice_get shards rank ≡ Some shard →
      shard ≡ fold_from shard_apply rank ranks (job.start ranks rank) (earlier (arrivals rank) job.barriers)

-- there is a shard of the job for each rank
pub record AreShards (job : Job) (ranks : ℕ) (shards : List JobShard) : Type 0 where
  pub all : length shards ≡ ranks
  pub each : (rank : ℕ) (shard : JobShard) → slice_get shards rank ≡ Some shard → shard_start shard ≡ job.start ranks rank

-- So many ranks can have read these inputs to their ends: each file has a rank, the job takes each line, and no file has
-- more lines than a rank may send letters.
pub record CanBeRead (job : Job) (ranks : ℕ) (inputs : List Input) : Type 0 where
  pub some : 0 < ranks
  pub few_ranks : ranks ≤ max_ranks
  pub files : length inputs ≤ ranks
  pub good : All (λ (input : Input). All (IsGood job) input.lines) inputs
  pub few_lines : All (λ (input : Input). length input.lines ≤ most_letters) inputs

-- The law of a job: if a complete run of its letters leads to shards, the text of these is the text of the lines.
abbrev pub IsLawful : Job → Type 0
IsLawful job = (ranks : ℕ) (inputs : List Input) (arrivals : Arrivals) (shards : List JobShard) (text : Option (List ℕ)) →
    CanBeRead job ranks inputs → IsRunOf job ranks inputs arrivals → AreFolds job ranks arrivals shards →
    job.IsText shards text → text ≡ job.text ranks inputs
