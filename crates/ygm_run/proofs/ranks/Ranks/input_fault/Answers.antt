use Rattle.std.proofs.Common.{◌≡◌, ◌∙◌, List, None, Some, length, refl, sym, ap, subst, arith, slice_get}
use Rattle.std.proofs.lemmas.Option.{slice_get_read}
use Rattle.ygm_run.specs.declared.ranks.RankRun.{RankRun}
use Rattle.ygm_run.proofs.RankRuns.First.{first_all, first_more}
use Rattle.ygm_run.proofs.ranks.Ranks.input_fault.Goals as goal

pub overflow_cast-result : goal.overflow_cast-result
overflow_cast-result c = omega (arith, c.loop-rank-test.true, ap length c.deref-run-items.ensures.value, c.requires.few)

pub returns-in-Some-clause-lowest : goal.returns-in-Some-clause-lowest
returns-in-Some-clause-lowest c =
    let runs : List RankRun = c.deref-run-items.result.now in
    let k = c.loop-rank.rank in
    let run : RankRun = c.run-item.result in
    record {
      run = run;
      run_is = subst (λ (xs : List RankRun). slice_get xs k ≡ Some run) c.deref-run-items.ensures.value (slice_get_read runs (length runs) k run refl c.loop-rank-test.true c.run-item.is);
      fault = sym c.input_fault.ensures ∙ c.in-Some.is;
      none_below = c.loop-rank.invariant;
    }

pub loop-rank-preserved : goal.loop-rank-preserved
loop-rank-preserved c =
    let runs : List RankRun = c.deref-run-items.result.now in
    let k = c.loop-rank.rank in
    let run : RankRun = c.run-item.result in
    let at = subst (λ (xs : List RankRun). slice_get xs k ≡ Some run) c.deref-run-items.ensures.value (slice_get_read runs (length runs) k run refl c.loop-rank-test.true c.run-item.is) in
    let none : c.input_fault.result ≡ None = c.in_default.is in
    first_more (λ (one : RankRun). one.job.fault ≡ None) c.args.self.now.runs.items k run at (sym c.input_fault.ensures ∙ none) c.loop-rank.invariant

pub returns-clause-none : goal.returns-clause-none
returns-clause-none c =
    first_all (λ (one : RankRun). one.job.fault ≡ None) c.args.self.now.runs.items c.loop-rank.rank
    (omega (arith, c.loop-rank-test.false, ap length c.deref-run-items.ensures.value)) c.loop-rank.invariant
