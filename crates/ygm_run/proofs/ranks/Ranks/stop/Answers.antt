use Rattle.std.proofs.Common.{◌≡◌, ◌∙◌, List, Some, Err, IfSome, length, refl, sym, ap, subst, arith, slice_get}
use Rattle.std.specs.Result.{IsOk}
use Rattle.std.proofs.lemmas.Option.{slice_get_read}
use Rattle.comm_rank.specs.declared.fault.CommFault.TheVariants.{CountFull}
use Rattle.ygm_run.specs.declared.ranks.RankRun.{RankRun}
use Rattle.ygm_run.specs.RankRuns.{IsStop, NoneStopped}
use Rattle.ygm_run.proofs.RankRuns.First.{finished_ok, first_all, first_more, going_ok, if_none}
use Rattle.ygm_run.proofs.ranks.Ranks.stop.Goals as goal
use Rattle.ygm_run.proofs.ranks.Ranks.stop.Goals.{in-None, in-Some-Err, in-Some-Ok}

pub overflow_cast-result : goal.overflow_cast-result
overflow_cast-result c = omega (arith, c.loop-rank-test.true, ap length c.deref-run-items.ensures.value, c.requires.few)

pub returns-in-Some-Err-CountFull-clause-stopped : goal.returns-in-Some-Err-CountFull-clause-stopped
returns-in-Some-Err-CountFull-clause-stopped c =
    let runs : List RankRun = c.deref-run-items.result.now in
    let k = c.loop-rank.rank in
    let run : RankRun = c.run-item.result in
    let w = c.in-Some-Err-CountFull in (
      run,
      subst (λ (xs : List RankRun). slice_get xs k ≡ Some run) c.deref-run-items.ensures.value (slice_get_read runs (length runs) k run refl c.loop-rank-test.true c.run-item.is),
      (let stopped : w.field-0 ≡ Err w.field-0-0 = rw w.is at w.field-0-is in
          let full : w.field-0-0 ≡ CountFull w.at = rw (w.is, stopped) at w.field-0-0-is in
          w.is ∙ ap Some (stopped ∙ ap Err full)),
    )

pub loop-rank-preserved : goal.loop-rank-preserved
loop-rank-preserved c =
    let runs : List RankRun = c.deref-run-items.result.now in
    let k = c.loop-rank.rank in
    let run : RankRun = c.run-item.result in
    let at = subst (λ (xs : List RankRun). slice_get xs k ≡ Some run) c.deref-run-items.ensures.value (slice_get_read runs (length runs) k run refl c.loop-rank-test.true c.run-item.is) in
    let before = c.loop-rank.invariant in
    elim c.match-run.branch [
      | in-Some-Err w ↦ record {
        stopped = subst (λ stop. IfSome stop (IsStop c.args.self.now.runs.items)) (sym w.stop-is) tt;
        none = λ none. absurd (let e = sym w.stop-is ∙ none in cc);
      }
      | in-Some-Ok w ↦ record {
        stopped = subst (λ stop. IfSome stop (IsStop c.args.self.now.runs.items)) (sym w.stop-is) before.stopped;
        none = λ none.
            first_more (λ (one : RankRun). IfSome one.ended IsOk) c.args.self.now.runs.items k run at
            (finished_ok run.ended w.in-Some-Ok.field-0 _ w.in-Some-Ok.is (rw w.in-Some-Ok.is at w.in-Some-Ok.field-0-is)) (before.none (sym w.stop-is ∙ none));
      }
      | in-None w ↦ record {
        stopped = subst (λ stop. IfSome stop (IsStop c.args.self.now.runs.items)) (sym w.stop-is) before.stopped;
        none = λ none.
            first_more (λ (one : RankRun). IfSome one.ended IsOk) c.args.self.now.runs.items k run at (going_ok run.ended w.in-None.is)
            (before.none (sym w.stop-is ∙ none));
      }
    ]

pub returns-clause-none : goal.returns-clause-none
returns-clause-none c = if_none c.loop-rank.stop (NoneStopped c.args.self.now.runs.items) (λ none.
    first_all (λ (one : RankRun). IfSome one.ended IsOk) c.args.self.now.runs.items c.loop-rank.rank
    (omega (arith, c.loop-rank-test.false, ap length c.deref-run-items.ensures.value)) (c.loop-rank.invariant.none none))
