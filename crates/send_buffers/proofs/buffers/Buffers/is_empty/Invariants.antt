use Rattle.std.proofs.Common.{◌≡◌, ◌<◌, ℕ, []}
use Rattle.send_buffers.specs.Buffers.{letters_in, queue_at}
use Rattle.send_buffers.proofs.buffers.Buffers.is_empty.Given as goal

-- nothing is held for the first next hops
abbrev pub invariant-loop-to : goal.invariant-loop-to
invariant-loop-to l = record {
  none : (next : ℕ) → next < l.to → letters_in (queue_at l.fn.self.queues next) ≡ [];
}
