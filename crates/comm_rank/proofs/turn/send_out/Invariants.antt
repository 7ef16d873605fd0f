use Rattle.std.proofs.Common.{◌≡◌, ◌+◌, map, take}
use Rattle.send_buffers.specs.Buffers.{queued}
use Rattle.comm_rank.specs.Fold.{letter_by}
use Rattle.comm_rank.specs.Held.{Gains}
use Rattle.comm_rank.specs.Store.{IsSameStore}
use Rattle.comm_rank.proofs.turn.send_out.Given as goal

-- the first letters were counted and are held
abbrev pub invariant-loop-k : goal.invariant-loop-k
invariant-loop-k l = record {
  held : Gains (queued l.fn.held.queues) (queued l.held.queues) (take l.k (map (letter_by l.here) l.out.letters));
  counted : l.sent ≡ record l.fn.sent { count = l.fn.sent.count + l.k };
  same : IsSameStore l.fn.held l.held;
}
