use Rattle.std.proofs.Common.{◌≡◌}
use Rattle.list_facts.specs.Sums.{sum_upto}
use Rattle.term_barrier.specs.Barriers.{heard_of, sums_heard_at}
use Rattle.term_barrier.proofs.barrier.Barrier.round_sums.Given as goal

abbrev pub invariant-loop-rank : goal.invariant-loop-rank
invariant-loop-rank l = record {
  sent_so_far : l.sent ≡ sum_upto (λ from. (sums_heard_at l.self.over (heard_of l.self from)).sent) l.rank;
  run_so_far : l.run ≡ sum_upto (λ from. (sums_heard_at l.self.over (heard_of l.self from)).run) l.rank;
}
