use Rattle.std.proofs.Common.{◌≡◌, ◌<◌, ◌∙◌, List, None, Some, length, map, refl, sym, subst, arith, slice_get, length-set}
use Rattle.std.proofs.lemmas.Option.{slice_get-get_or, slice_get_past, slice_get_read}
use Rattle.list_facts.proofs.Places.{same_item}
use Rattle.term_barrier.proofs.Polls.AfterTurn.{none_from_false}
use Rattle.world_core.specs.Plain.{state_of}
use Rattle.ygm_run.specs.declared.ranks.RankRun.{RankRun}
use Rattle.ygm_run.specs.RankJobs.{InJob, left_in}
use Rattle.ygm_run.proofs.Inputs.AreRests.{rests_more, rests_none, rests_then}
use Rattle.ygm_run.proofs.RankRuns.Others.{in_job_at, runs_with_source, runs_without}
use Rattle.ygm_run.proofs.RankRuns.Turned.{by_end_alike, in_job_alike}
use Rattle.ygm_run.proofs.ranks.Ranks.round.Goals as goal
use Rattle.ygm_run.proofs.ranks.Ranks.round.Goals.{else-rank-sources, then-rank-sources}

pub loop-rank-init : goal.loop-rank-init
loop-rank-init g c = record {
  runs = λ layout start are. are;
  rests = rests_none g.S.Source.left c.args.sources.now;
  same = refl;
  all = refl;
}

pub turn-requires-clause-in_job : goal.turn-requires-clause-in_job
turn-requires-clause-in_job g c =
    let left = g.S.Source.left in
    let faults = g.S.Source.faults in
    let before = c.loop-rank.self in
    let runs : List RankRun = c.loop-rank.self.runs.items in
    let rank = c.loop-rank.rank in
    let layout = c.requires.runs.0 in
    let start = c.requires.runs.1 in
    let run : RankRun = c.index_mut.result.now in
    let within : rank < length runs = omega (arith, c.loop-rank-test.true, c.len-rank-end.ensures, c.loop-rank.invariant.all) in
    let at : slice_get runs rank ≡ Some run = slice_get_read runs (length runs) rank run refl within c.index_mut.ensures.value in
    let same : c.index.result.now ≡ run = same_item runs rank c.index.result.now run (slice_get_read runs (length runs) rank c.index.result.now refl within c.index.ensures) at in
    let going : run.ended ≡ None = subst (λ (one : RankRun). one.ended ≡ None) same (none_from_false c.index.result.now.ended (sym c.is_some.ensures ∙ c.if-is_some.false)) in
    let content = left_in left (slice_get start rank) in (
      content,
      subst (InJob left faults content run.job run.comm run.barrier (state_of before.links)) (slice_get-get_or c.loop-rank.sources rank c.index-sources-rank.result c.if-rank-sources.true)
          (in_job_at left faults layout start runs before.links c.loop-rank.sources rank run (c.loop-rank.invariant.runs layout start c.requires.runs.2) at going),
    )

pub turn-requires-else-rank-sources-clause-in_job : goal.turn-requires-else-rank-sources-clause-in_job
turn-requires-else-rank-sources-clause-in_job g c =
    let left = g.S.Source.left in
    let faults = g.S.Source.faults in
    let before = c.loop-rank.self in
    let runs : List RankRun = c.loop-rank.self.runs.items in
    let rank = c.loop-rank.rank in
    let layout = c.requires.runs.0 in
    let start = c.requires.runs.1 in
    let run : RankRun = c.index_mut-else-rank-sources.result.now in
    let within : rank < length runs = omega (arith, c.loop-rank-test.true, c.len-rank-end.ensures, c.loop-rank.invariant.all) in
    let at : slice_get runs rank ≡ Some run = slice_get_read runs (length runs) rank run refl within c.index_mut-else-rank-sources.ensures.value in
    let same : c.index.result.now ≡ run = same_item runs rank c.index.result.now run (slice_get_read runs (length runs) rank c.index.result.now refl within c.index.ensures) at in
    let going : run.ended ≡ None = subst (λ (one : RankRun). one.ended ≡ None) same (none_from_false c.index.result.now.ended (sym c.is_some.ensures ∙ c.if-is_some.false)) in
    let content = left_in left (slice_get start rank) in (
      content,
      in_job_alike left faults _ _ content run.job run.comm run.barrier (state_of before.links)
          (subst (InJob left faults content run.job run.comm run.barrier (state_of before.links)) (slice_get_past c.loop-rank.sources rank c.if-rank-sources.false)
          (in_job_at left faults layout start runs before.links c.loop-rank.sources rank run (c.loop-rank.invariant.runs layout start c.requires.runs.2) at going)),
    )

pub loop-rank-preserved : goal.loop-rank-preserved
loop-rank-preserved g c =
    let left = g.S.Source.left in
    let faults = g.S.Source.faults in
    let before = c.loop-rank.self in
    let runs : List RankRun = c.loop-rank.self.runs.items in
    let sources : List g.row.S.Denot = c.loop-rank.sources in
    let rank = c.loop-rank.rank in
    let within : rank < length runs = omega (arith, c.loop-rank-test.true, c.len-rank-end.ensures, c.loop-rank.invariant.all) in
    let seen : slice_get runs rank ≡ Some c.index.result.now = slice_get_read runs (length runs) rank c.index.result.now refl within c.index.ensures in
    let none : c.index.result.now.ended ≡ None = none_from_false c.index.result.now.ended (sym c.is_some.ensures ∙ c.if-is_some.false) in
    elim c.if-rank-sources.branch [
      | then-rank-sources w ↦
          let run : RankRun = w.index_mut.result.now in
          let now : RankRun = w.turn.new.self in
          let one = w.index-sources-rank.result in
          let at : slice_get runs rank ≡ Some run = slice_get_read runs (length runs) rank run refl within w.index_mut.ensures.value in
          let going : run.ended ≡ None = subst (λ (r : RankRun). r.ended ≡ None) (same_item runs rank c.index.result.now run seen at) none in
          let there = slice_get-get_or sources rank one w.if-rank-sources.true in
          record {
            runs = rw (w.self-is, w.sources-is) (λ layout start first.
                let are = c.loop-rank.invariant.runs layout start first in
                let content = left_in left (slice_get start rank) in
                runs_with_source left faults layout start runs before.links w.turn.new.post sources rank run now are at w.turn.ensures.same_rank w.turn.ensures.post _
                w.if-rank-sources.true
                (w.turn.ensures.turned content (subst (InJob left faults content run.job run.comm run.barrier (state_of before.links)) there
                (in_job_at left faults layout start runs before.links sources rank run are at going))));
            rests = rw w.sources-is
                (rests_then left (map left c.args.sources.now) sources _ (length-set sources rank _) c.loop-rank.invariant.rests
                (rests_more left sources sources rank _ _ (rests_none left sources) there w.turn.ensures.rest));
            same = c.if-rank-sources.auto.sources ∙ c.loop-rank.invariant.same;
            all = rw w.self-is (length-set runs rank now ∙ c.loop-rank.invariant.all);
          }
      | else-rank-sources w ↦
          let run : RankRun = w.index_mut-else-rank-sources.result.now in
          let did = w.turn-else-rank-sources in
          let now : RankRun = did.new.self in
          let at : slice_get runs rank ≡ Some run = slice_get_read runs (length runs) rank run refl within w.index_mut-else-rank-sources.ensures.value in
          let going : run.ended ≡ None = subst (λ (r : RankRun). r.ended ≡ None) (same_item runs rank c.index.result.now run seen at) none in
          record {
            runs = rw (w.self-is, w.sources-is) (λ layout start first.
                let are = c.loop-rank.invariant.runs layout start first in
                let content = left_in left (slice_get start rank) in
                let none_there = slice_get_past sources rank w.if-rank-sources.false in
                runs_without left faults layout start runs before.links did.new.post sources rank run now are at did.ensures.same_rank did.ensures.post
                w.if-rank-sources.false
                (by_end_alike _ _ left faults content now.job now.comm now.barrier (state_of did.new.post) now.ended
                (did.ensures.turned content (in_job_alike left faults _ _ content run.job run.comm run.barrier (state_of before.links)
                (subst (InJob left faults content run.job run.comm run.barrier (state_of before.links)) none_there
                (in_job_at left faults layout start runs before.links sources rank run are at going))))));
            rests = rw w.sources-is c.loop-rank.invariant.rests;
            same = c.if-rank-sources.auto.sources ∙ c.loop-rank.invariant.same;
            all = rw w.self-is (length-set runs rank now ∙ c.loop-rank.invariant.all);
          }
    ]
