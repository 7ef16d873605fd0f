-- What happens to one rank leaves the jobs of the others as they are.
use Rattle.std.proofs.Common.{◌≡◌, ◌≢◌, ℕ, ◌<◌, ◌≤◌, ◌∙◌, List, [], Option, None, Some, Result, Ok, Err, length, set, refl, sym, subst, inl, inr, slice_get}
use Rattle.std.proofs.lemmas.Bool.{cases_eq}
use Rattle.std.proofs.lemmas.List.{length-set}
use Rattle.std.proofs.lemmas.Option.{slice_get_past}
use Rattle.list_facts.proofs.Places.{item_kept, item_placed, item_set}
use Rattle.ygm_io.specs.Content.{ExposedBytes}
use Rattle.ygm_route.specs.Layout.{Shape}
use Rattle.world_core.specs.Plain.{Plain, state_of}
use Rattle.world_core.specs.Post.{PostState, SamePost}
use Rattle.comm_rank.specs.declared.fault.CommFault.{CommFault}
use Rattle.comm_rank.specs.Rank.{IsSameRank, Rank}
use Rattle.term_barrier.specs.Barriers.{BarrierState}
use Rattle.term_barrier.proofs.Carried.Turned.{carries_still}
use Rattle.counting_set.specs.Counting.{Counts, counting_apply}
use Rattle.ygm_run.specs.declared.ranks.RankRun.{RankRun}
use Rattle.ygm_run.specs.RankJobs.{InJob, JobState, KeepsJob, left_in}
use Rattle.ygm_run.specs.RankRuns.{AreRuns, IsByEnd, IsRun}

-- ---- one rank, while another does something

module _ (here : ℕ) (before after : PostState) (same : SamePost here before after) (job : JobState) (me : Rank Counts)
    (other : me.here ≢ here) (barrier : BarrierState) (content : ExposedBytes) where
  keeps_still : (left : ExposedBytes) → KeepsJob content job me barrier before left → KeepsJob content job me barrier after left
  keeps_still left keeps = record {
    raws = keeps.raws;
    rounds = keeps.rounds;
    read = keeps.read;
    carries = carries_still counting_apply (λ _. []) _ keeps.rounds barrier me here before after other same keeps.carries;
    counted = keeps.counted;
    few = keeps.few;
    most = keeps.most;
  }

  module _ {S : Type 0} (left : S → ExposedBytes) (faults : S → ℕ) (source : Option S) where
    by_end_still : (ended : Option (Result (Unit {0}) CommFault)) →
        IsByEnd left faults content ended job me barrier before source → IsByEnd left faults content ended job me barrier after source
    by_end_still None in_job = record {
      keeps = keeps_still (left_in left source) in_job.keeps;
      going = in_job.going;
      first = in_job.first;
      no_source = in_job.no_source;
      outside = in_job.outside;
      inside = in_job.inside;
    }
    by_end_still (Some (Ok done)) finished = record {
      keeps = keeps_still (left_in left source) finished.keeps;
      passed = finished.passed;
      stops = finished.stops;
      ended = finished.ended;
    }
    by_end_still (Some (Err fault)) full = full

-- ---- all ranks, of which one takes a turn

module _ {S : Type 0} (left : S → ExposedBytes) (faults : S → ℕ) (layout : Shape) (start : List S) (runs : List RankRun)
    (links links_now : Plain) (sources sources_now : List S) (rank : ℕ) (run now : RankRun)
    (are : AreRuns left faults layout start runs links sources) (at : slice_get runs rank ≡ Some run)
    (same : IsSameRank run.comm now.comm) (post : SamePost run.comm.here (state_of links) (state_of links_now))
    (others : (other : ℕ) → other ≢ rank → slice_get sources_now other ≡ slice_get sources other)
    (turned : IsByEnd left faults (left_in left (slice_get start rank)) now.ended now.job now.comm now.barrier (state_of links_now) (slice_get sources_now rank))
  where
    the_run : IsRun left faults layout rank (left_in left (slice_get start rank)) run (state_of links) (slice_get sources rank)
    the_run = are.each rank run at

    run_turned : IsRun left faults layout rank (left_in left (slice_get start rank)) now (state_of links_now) (slice_get sources_now rank)
    run_turned = record {
      here = same.here ∙ the_run.here;
      layout_is = same.layout ∙ the_run.layout_is;
      by_end = turned;
    }

    run_still : (other : ℕ) (one : RankRun) → other ≢ rank → slice_get runs other ≡ Some one →
        IsRun left faults layout other (left_in left (slice_get start other)) one (state_of links_now) (slice_get sources_now other)
    run_still other one ne there =
        let is = are.each other one there in
        let apart : one.comm.here ≢ run.comm.here = λ e. ne (sym is.here ∙ e ∙ the_run.here) in
        let content = left_in left (slice_get start other) in
        record {
          here = is.here;
          layout_is = is.layout_is;
          by_end = subst (IsByEnd left faults content one.ended one.job one.comm one.barrier (state_of links_now)) (sym (others other ne))
              (by_end_still run.comm.here (state_of links) (state_of links_now) post one.job one.comm apart one.barrier content left faults (slice_get sources other) one.ended is.by_end);
        }

    pub runs_turned : AreRuns left faults layout start (set runs rank now) links_now sources_now
    runs_turned = record {
      all = length-set runs rank now ∙ are.all;
      same_world = post.layout ∙ are.same_world;
      each = λ other one there. elim (cases_eq other rank) [
        | inl e ↦
            let is : now ≡ one = item_placed runs rank other one now e there in
            subst (λ (r : RankRun). IsRun left faults layout other (left_in left (slice_get start other)) r (state_of links_now) (slice_get sources_now other)) is
            (subst (λ k. IsRun left faults layout k (left_in left (slice_get start k)) now (state_of links_now) (slice_get sources_now k)) (sym e) run_turned)
        | inr ne ↦ run_still other one ne (sym (item_kept runs rank other now ne) ∙ there)
      ];
    }

-- the job of a rank that goes on
pub in_job_at : {S : Type 0} (left : S → ExposedBytes) (faults : S → ℕ) (layout : Shape) (start : List S) (runs : List RankRun)
    (links : Plain) (sources : List S) (rank : ℕ) (run : RankRun) → AreRuns left faults layout start runs links sources →
    slice_get runs rank ≡ Some run → run.ended ≡ None →
    InJob left faults (left_in left (slice_get start rank)) run.job run.comm run.barrier (state_of links) (slice_get sources rank)
in_job_at left faults layout start runs links sources rank run are at going =
    subst (λ ended. IsByEnd left faults (left_in left (slice_get start rank)) ended run.job run.comm run.barrier (state_of links) (slice_get sources rank)) going
    (are.each rank run at).by_end

-- ---- the source of the rank, or none

module _ {S : Type 0} (left : S → ExposedBytes) (faults : S → ℕ) (layout : Shape) (start : List S) (runs : List RankRun)
    (links links_now : Plain) (sources : List S) (rank : ℕ) (run now : RankRun)
    (are : AreRuns left faults layout start runs links sources) (at : slice_get runs rank ≡ Some run)
    (same : IsSameRank run.comm now.comm) (post : SamePost run.comm.here (state_of links) (state_of links_now))
  where
    -- of the rank's source, what it became is given
    pub runs_with_source : (source : S) → rank < length sources →
        IsByEnd left faults (left_in left (slice_get start rank)) now.ended now.job now.comm now.barrier (state_of links_now) (Some source) →
        AreRuns left faults layout start (set runs rank now) links_now (set sources rank source)
    runs_with_source source within turned =
        runs_turned left faults layout start runs links links_now sources (set sources rank source) rank run now are at same post
        (λ other ne. item_kept sources rank other source ne)
        (subst (IsByEnd left faults (left_in left (slice_get start rank)) now.ended now.job now.comm now.barrier (state_of links_now)) (sym (item_set sources rank source within)) turned)

    pub runs_without : length sources ≤ rank →
        IsByEnd left faults (left_in left (slice_get start rank)) now.ended now.job now.comm now.barrier (state_of links_now) None →
        AreRuns left faults layout start (set runs rank now) links_now sources
    runs_without past turned =
        runs_turned left faults layout start runs links links_now sources sources rank run now are at same post
        (λ other ne. refl)
        (subst (IsByEnd left faults (left_in left (slice_get start rank)) now.ended now.job now.comm now.barrier (state_of links_now)) (sym (slice_get_past sources rank past)) turned)
