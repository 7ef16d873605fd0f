use Rattle.std.proofs.Common.{◌≡◌, ◌<◌, ◌≤◌, ◌++◌, ℕ, drop, get_or, length, map, take}
use Rattle.send_buffers.specs.Buffers.{closed_up}
use Rattle.send_buffers.specs.Stored.{held_in, room_in}
use Rattle.send_buffers.proofs.buffers.close_up.Given as goal

abbrev pub invariant-loop-at : goal.invariant-loop-at
invariant-loop-at l = record {
  first_closed : held_in l.queues.items ≡ map closed_up (take l.at (held_in l.fn.queues.items)) ++ drop l.at (held_in l.fn.queues.items);
  all : length l.queues.items ≡ length l.fn.queues.items;
}
