use Rattle.std.proofs.Common.{◌≡◌, replicate}
use Rattle.send_buffers.specs.Buffers.{empty_queue}
use Rattle.send_buffers.specs.Stored.{held_in}
use Rattle.send_buffers.proofs.buffers.empty_queues.Given as goal

abbrev pub invariant-loop : goal.invariant-loop
invariant-loop l = held_in l.queues.items ≡ replicate l.counter empty_queue
