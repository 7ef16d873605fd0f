use Rattle.std.proofs.Common.{◌≡◌, ℕ, ◌<◌, None, Some, IfSome, slice_get}
use Rattle.std.specs.Result.{IsOk}
use Rattle.ygm_run.specs.declared.ranks.RankRun.{RankRun}
use Rattle.ygm_run.specs.RankRuns.{IsStop}
use Rattle.ygm_run.proofs.ranks.Ranks.stop.Given as goal

-- where no stop was found, the first ranks that have ended have finished
abbrev pub invariant-loop-rank : goal.invariant-loop-rank
invariant-loop-rank l = record {
  stopped : IfSome l.stop (IsStop l.self.runs.items);
  none : l.stop ≡ None → (k : ℕ) (run : RankRun) → k < l.rank → slice_get l.self.runs.items k ≡ Some run → IfSome run.ended IsOk;
}
