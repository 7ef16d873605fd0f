use Rattle.std.proofs.Common.{◌≡◌, ◌+◌, List, length}
use Rattle.send_buffers.specs.Buffers.{queue_at}
use Rattle.world_core.specs.Post.{SameFulls}
use Rattle.world_core.specs.declared.entry.Entry.{Entry}
use Rattle.comm_rank.specs.Moves.{Moved, OthersUnchanged}
use Rattle.comm_rank.proofs.put_out.put_to.Given as goal

-- the oldest batches for the next hop moved into the log
abbrev pub invariant-loop-k : goal.invariant-loop-k
invariant-loop-k g l = record {
  placed : List Entry;
  moved : Moved l.fn.held l.held (g.P.Post.state l.fn.post) (g.P.Post.state l.post) placed;
  count : length placed ≡ l.k;
  remaining : length (queue_at l.held.queues l.to).closed + l.k ≡ length (queue_at l.fn.held.queues l.to).closed;
  fulls : SameFulls (g.P.Post.state l.fn.post) (g.P.Post.state l.post);
  others : OthersUnchanged l.to l.fn.held.queues l.held.queues;
}
