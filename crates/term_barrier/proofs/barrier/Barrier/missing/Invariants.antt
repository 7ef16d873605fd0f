use Rattle.std.proofs.Common.{ℕ, ◌<◌}
use Rattle.term_barrier.specs.Barriers.{heard_of}
use Rattle.term_barrier.proofs.barrier.Barrier.missing.Given as goal

abbrev pub invariant-loop-rank : goal.invariant-loop-rank
invariant-loop-rank l = (lower : ℕ) → lower < l.rank → l.self.known < (heard_of l.self lower).rounds
