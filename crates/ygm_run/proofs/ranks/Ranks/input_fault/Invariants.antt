use Rattle.std.proofs.Common.{◌≡◌, ℕ, ◌<◌, None, Some, slice_get}
use Rattle.ygm_run.specs.declared.ranks.RankRun.{RankRun}
use Rattle.ygm_run.proofs.ranks.Ranks.input_fault.Given as goal

-- the inputs of the first ranks have no fault
abbrev pub invariant-loop-rank : goal.invariant-loop-rank
invariant-loop-rank l = (k : ℕ) (run : RankRun) → k < l.rank → slice_get l.self.runs.items k ≡ Some run → run.job.fault ≡ None
