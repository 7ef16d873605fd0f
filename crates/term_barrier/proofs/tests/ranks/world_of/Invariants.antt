use Rattle.std.proofs.Common.{◌≡◌, ℕ, None, Some, List, [], length, slice_get}
use Rattle.comm_rank.specs.Rank.{fresh_rank}
use Rattle.term_barrier.specs.declared.tests.ranks.Member.{Member}
use Rattle.term_barrier.specs.Barriers.{fresh_barrier}
use Rattle.term_barrier.proofs.tests.ranks.world_of.Given as goal

abbrev pub invariant-loop-here : goal.invariant-loop-here
invariant-loop-here l = record {
  all : length l.members.items ≡ l.here;
  each : (rank : ℕ) (member : Member (List ℕ)) → slice_get l.members.items rank ≡ Some member →
      (member.comm ≡ fresh_rank l.layout l.scheme rank l.limits.letters [] None) × (member.barrier ≡ fresh_barrier l.layout rank l.limits.rounds);
}
