-- A turn of the job of a rank, by what it came to.
use Rattle.std.proofs.Common.{◌≡◌, ℕ, Option, None, Some, Result, Ok, Err, OnOk, refl, sym, subst}
use Rattle.ygm_io.specs.Content.{ExposedBytes}
use Rattle.world_core.specs.Post.{PostState}
use Rattle.comm_rank.specs.declared.fault.CommFault.{CommFault}
use Rattle.comm_rank.specs.Rank.{Rank}
use Rattle.term_barrier.specs.Barriers.{BarrierState}
use Rattle.counting_set.specs.Counting.{Counts}
use Rattle.ygm_run.specs.declared.job.Step.{Step}
use Rattle.ygm_run.specs.declared.job.Step.TheVariants.{Finished, Going}
use Rattle.ygm_run.specs.declared.ranks.RankRun.{RankRun}
use Rattle.ygm_run.specs.RankJobs.{HasFinished, InJob, JobState, JobTurned}
use Rattle.ygm_run.specs.RankRuns.{IsByEnd, ended_by}

-- ---- a rank without a source

module _ {S N : Type 0} (left : S → ExposedBytes) (faults : S → ℕ) (others : N → ExposedBytes) (other_faults : N → ℕ) (content : ExposedBytes)
    (job : JobState) (me : Rank Counts) (barrier : BarrierState) (post : PostState) where
  -- whatever sources are like
  pub in_job_alike : InJob left faults content job me barrier post None → InJob others other_faults content job me barrier post None
  in_job_alike in_job = record {
    keeps = in_job.keeps;
    going = in_job.going;
    first = in_job.first;
    no_source = λ none. in_job.no_source refl;
    outside = in_job.outside;
    inside = in_job.inside;
  }

  pub turned_alike : (turned : Result Step CommFault) → JobTurned left faults content turned job me barrier post None → JobTurned others other_faults content turned job me barrier post None
  turned_alike (Ok Going) in_job = in_job_alike in_job
  turned_alike (Ok Finished) finished = record { keeps = finished.keeps; passed = finished.passed; stops = finished.stops; ended = finished.ended }
  turned_alike (Err fault) full = full

  pub by_end_alike : (ended : Option (Result (Unit {0}) CommFault)) → IsByEnd left faults content ended job me barrier post None → IsByEnd others other_faults content ended job me barrier post None
  by_end_alike None in_job = in_job_alike in_job
  by_end_alike (Some (Ok done)) finished = record { keeps = finished.keeps; passed = finished.passed; stops = finished.stops; ended = finished.ended }
  by_end_alike (Some (Err fault)) full = full

-- ---- what a turn came to

module _ {S : Type 0} (left : S → ExposedBytes) (faults : S → ℕ) (content : ExposedBytes) where
  -- the rank and its post are unchanged after a turn that ended
  by_turn : (turned : Result Step CommFault) (job : JobState) (me now : Rank Counts) (barrier : BarrierState) (post after : PostState) (source : Option S) →
      OnOk turned ((now ≡ me) × (after ≡ post)) → JobTurned left faults content turned job me barrier post source →
      IsByEnd left faults content (ended_by None turned) job now barrier after source
  by_turn (Ok Going) job me now barrier post after source same in_job =
      subst (λ (at : PostState). InJob left faults content job now barrier at source) (sym same.1)
      (subst (λ (one : Rank Counts). InJob left faults content job one barrier post source) (sym same.0) in_job)
  by_turn (Ok Finished) job me now barrier post after source same finished =
      subst (λ (at : PostState). HasFinished left faults content job now barrier at source) (sym same.1)
      (subst (λ (one : Rank Counts). HasFinished left faults content job one barrier post source) (sym same.0) finished)
  by_turn (Err fault) job me now barrier post after source same full = full

  pub run_by_turn : (old now : RankRun) (turned : Result Step CommFault) (post after : PostState) (source : Option S) →
      now ≡ record old { comm = now.comm; ended = ended_by old.ended turned } → old.ended ≡ None →
      OnOk turned ((now.comm ≡ old.comm) × (after ≡ post)) →
      JobTurned left faults content turned old.job old.comm old.barrier post source →
      IsByEnd left faults content now.ended now.job now.comm now.barrier after source
  run_by_turn old now turned post after source is going same job =
      subst (λ (run : RankRun). IsByEnd left faults content run.ended run.job run.comm run.barrier after source) (sym is)
      (subst (λ was. IsByEnd left faults content (ended_by was turned) old.job now.comm old.barrier after source) (sym going)
      (by_turn turned old.job old.comm now.comm old.barrier post after source same job))
