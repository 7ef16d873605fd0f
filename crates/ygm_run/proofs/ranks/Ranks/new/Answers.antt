use Rattle.std.proofs.Common.{◌≡◌, ℕ, ◌+◌, ◌∙◌, List, [], ◌∷◌, ◌++◌, Some, length, slice_get, sym, ap, subst, length-append}
use Rattle.ygm_run.specs.declared.ranks.RankRun.{RankRun}
use Rattle.ygm_run.specs.RankRuns.{IsFreshRun}
use Rattle.ygm_run.proofs.RankRuns.Begun.{fresh_more}
use Rattle.ygm_run.proofs.ranks.Ranks.new.Goals as goal

pub loop-here-preserved : goal.loop-here-preserved
loop-here-preserved c =
    let runs : List RankRun = c.loop-here.runs.items in
    let run : RankRun = c.in_ok-new.field-0 in
    let pushed : c.push.new.self.items ≡ runs ++ run ∷ [] = c.in_ok-push.ensures.items in
    let last = subst (λ rank. IsFreshRun c.args.layout c.args.scheme rank run) (sym c.loop-here.invariant.count) c.in_ok-new.ensures.fresh in
    record {
      count = ap length pushed ∙ length-append runs (run ∷ []) ∙ ap (λ k. k + 1) c.loop-here.invariant.count;
      fresh =
          subst (λ (all : List RankRun). (rank : ℕ) (one : RankRun) → slice_get all rank ≡ Some one → IsFreshRun c.args.layout c.args.scheme rank one) (sym pushed)
          (fresh_more c.args.layout c.args.scheme runs run c.loop-here.invariant.fresh last);
    }
