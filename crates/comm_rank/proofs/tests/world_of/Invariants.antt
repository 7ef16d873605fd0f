use Rattle.std.proofs.Common.{◌≡◌, ℕ, None, Some, List, [], length, slice_get}
use Rattle.comm_rank.specs.Rank.{Rank, fresh_rank}
use Rattle.comm_rank.proofs.tests.world_of.Given as goal

abbrev pub invariant-loop-here : goal.invariant-loop-here
invariant-loop-here l = record {
  all : length l.comms.items ≡ l.here;
  each : (rank : ℕ) (me : Rank (List ℕ)) → slice_get l.comms.items rank ≡ Some me → me ≡ fresh_rank l.layout l.scheme rank l.limits.letters [] None;
}
