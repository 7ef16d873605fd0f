use Rattle.std.proofs.Common.{◌≡◌, ℕ, Some, length, slice_get}
use Rattle.ygm_run.specs.declared.ranks.RankRun.{RankRun}
use Rattle.ygm_run.specs.RankRuns.{IsFreshRun}
use Rattle.ygm_run.proofs.ranks.Ranks.new.Given as goal

-- the jobs of the first ranks are there, fresh
abbrev pub invariant-loop-here : goal.invariant-loop-here
invariant-loop-here l = record {
  count : length l.runs.items ≡ l.here;
  fresh : (rank : ℕ) (run : RankRun) → slice_get l.runs.items rank ≡ Some run → IsFreshRun l.layout l.scheme rank run;
}
