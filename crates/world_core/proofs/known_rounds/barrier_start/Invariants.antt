use Rattle.std.proofs.Common.{◌≡◌, ℕ, ◌<◌, pred, true, is_some}
use Rattle.world_core.specs.Counts.{total_taken}
use Rattle.world_core.specs.Rounds.{first_round, sums_told}
use Rattle.world_core.specs.Trial.{sums_of}
use Rattle.world_core.proofs.known_rounds.barrier_start.Given as goal

abbrev pub invariant-loop-q : goal.invariant-loop-q
invariant-loop-q l = record {
  first : l.first ≡ first_round (sums_told l.here l.log) l.q;
  known : (j : ℕ) → j < l.q → is_some (total_taken l.here j l.log) ≡ true;
  before : 0 < l.q → sums_of l.before ≡ sums_told l.here l.log (pred l.q);
}
