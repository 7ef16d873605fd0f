-- The jobs of all ranks of a new world.
use Rattle.std.proofs.Common.{◌≡◌, ℕ, zero, suc, ◌<◌, length, List, [], ◌∷◌, ◌++◌, Option, Some, None, refl, sym, ap, subst, arith, slice_get}
use Rattle.std.proofs.lemmas.List.{get_or-replicate}
use Rattle.std.proofs.lemmas.Option.{slice_get_within}
use Rattle.ygm_io.specs.Content.{ExposedBytes}
use Rattle.ygm_route.specs.declared.scheme.Scheme.{Scheme}
use Rattle.ygm_route.specs.Layout.{Shape}
use Rattle.world_core.specs.Limits.{most_letters, most_rounds}
use Rattle.world_core.specs.Plain.{Plain, fresh_links, state_of}
use Rattle.world_core.specs.Post.{PostState}
use Rattle.comm_rank.specs.Rank.{Rank, fresh_rank}
use Rattle.comm_rank.proofs.Agrees.Fresh.{belongs_new}
use Rattle.list_facts.proofs.Places.{each_place_more}
use Rattle.term_barrier.specs.Barriers.{BarrierState, fresh_barrier}
use Rattle.term_barrier.specs.Carried.{Carries}
use Rattle.term_barrier.proofs.Carried.Outside.{carries_new}
use Rattle.term_barrier.proofs.Carried.Same.{carries_same}
use Rattle.counting_set.specs.Counting.{Counts, counting_apply}
use Rattle.ygm_run.specs.declared.ranks.RankRun.{RankRun}
use Rattle.ygm_run.specs.RankJobs.{InJob, JobState, KeepsJob, faults_in, fresh_job, left_in}
use Rattle.ygm_run.specs.RankRuns.{AreFresh, AreRuns, IsByEnd, IsFreshRun, IsRun}
use Rattle.ygm_run.specs.TallyRun.{tally_letters}
use Rattle.line_input.proofs.Taken.LinesTaken.{lines_none}
use Rattle.line_input.proofs.Turns.ToCome.{taken_none}

-- without lines there are no own letters
none_own : (ranks here phase to : ℕ) → tally_letters ranks here [] phase to ≡ []
none_own ranks here zero to = refl
none_own ranks here (suc phase) to = refl

no_fault : {S : Type 0} (faults : S → ℕ) (source : Option S) → ((one : S) → source ≡ Some one → faults one ≡ 0) → faults_in faults source ≡ 0
no_fault faults None fresh = refl
no_fault faults (Some one) fresh = fresh one refl

module _ (layout : Shape) (scheme : Scheme) (ring batches rank : ℕ) (within : rank < layout.ranks) where
  abbrev me : Rank Counts
  me = fresh_rank layout scheme rank most_letters [] None

  abbrev barrier : BarrierState
  barrier = fresh_barrier layout rank most_rounds

  abbrev post : PostState
  post = state_of (fresh_links layout scheme ring batches)

  carries_none : Carries counting_apply (λ _. []) (λ phase to. []) (λ k. 0) barrier me post
  carries_none =
      carries_new counting_apply (λ _. []) layout scheme rank most_letters most_rounds [] None (λ k. 0) post
      (belongs_new counting_apply (λ _. []) layout scheme most_letters ring batches [] None refl rank within)
      (get_or-replicate layout.ranks rank [] [] within)

  keeps_new : (left : ExposedBytes) → KeepsJob left fresh_job me barrier post left
  keeps_new left = record {
    raws = [];
    rounds = λ k. 0;
    read = record { taken = lines_none left _ (taken_none left); short = tt; given = refl };
    carries =
        carries_same counting_apply (λ _. []) (λ phase to. []) (tally_letters layout.ranks rank []) (λ k. 0) (λ k. 0) barrier me post
        (none_own layout.ranks rank) (λ k lt. refl) carries_none;
    counted = refl;
    few = omega arith;
    most = refl;
  }

  in_job_new : {S : Type 0} (left : S → ExposedBytes) (faults : S → ℕ) (source : Option S) → faults_in faults source ≡ 0 →
      InJob left faults (left_in left source) fresh_job me barrier post source
  in_job_new left faults source fresh = record {
    keeps = keeps_new (left_in left source);
    going = refl;
    first = refl;
    no_source = λ none. refl;
    outside = λ outside. (refl, refl, fresh);
    inside = λ inside. absurd cc;
  }

  -- of a fresh run
  run_new : {S : Type 0} (left : S → ExposedBytes) (faults : S → ℕ) (run : RankRun) (source : Option S) → faults_in faults source ≡ 0 →
      IsFreshRun layout scheme rank run → IsRun left faults layout rank (left_in left source) run post source
  run_new left faults run source fresh is =
      let content : ExposedBytes = left_in left source in
      let by_barrier = subst (λ (at : BarrierState). InJob left faults content fresh_job me at post source) (sym is.barrier) (in_job_new left faults source fresh) in
      let by_rank = subst (λ (one : Rank Counts). InJob left faults content fresh_job one run.barrier post source) (sym is.comm) by_barrier in
      let in_job = subst (λ (job : JobState). InJob left faults content job run.comm run.barrier post source) (sym is.job) by_rank in
      record {
        here = ap (λ (one : Rank Counts). one.here) is.comm;
        layout_is = ap (λ (one : Rank Counts). one.layout) is.comm;
        by_end = subst (λ ended. IsByEnd left faults content ended run.job run.comm run.barrier post source) (sym is.going) in_job;
      }

-- fresh runs over sources of which no read failed
pub fresh_are_runs : {S : Type 0} (left : S → ExposedBytes) (faults : S → ℕ) (layout : Shape) (start : List S) (runs : List RankRun) (links : Plain) →
    AreFresh layout runs links → ((rank : ℕ) (source : S) → slice_get start rank ≡ Some source → faults source ≡ 0) →
    AreRuns left faults layout start runs links start
fresh_are_runs left faults layout start runs links fresh none = subst (λ (those : Plain). AreRuns left faults layout start runs those start) (sym fresh.links_are) (record {
  all = fresh.all;
  same_world = refl;
  each = λ rank run at.
      run_new layout fresh.scheme fresh.ring fresh.batches rank (let within = slice_get_within runs rank run at in omega (arith, within, fresh.all)) left faults run (slice_get start rank)
      (no_fault faults (slice_get start rank) (none rank)) (fresh.each rank run at);
})

-- one job more, that of the next rank
pub fresh_more : (layout : Shape) (scheme : Scheme) (runs : List RankRun) (run : RankRun) →
    ((rank : ℕ) (one : RankRun) → slice_get runs rank ≡ Some one → IsFreshRun layout scheme rank one) → IsFreshRun layout scheme (length runs) run →
    (rank : ℕ) (one : RankRun) → slice_get (runs ++ run ∷ []) rank ≡ Some one → IsFreshRun layout scheme rank one
fresh_more layout scheme runs run each last = each_place_more (IsFreshRun layout scheme) runs run each last
