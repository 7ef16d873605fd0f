use Rattle.std.proofs.Common.{◌≡◌, ◌≤◌, ◌<◌, ◌-◌, ◌^◌, ℕ, None, List, length, min}
use Rattle.world_core.specs.declared.entry.Entry.{Entry}
use Rattle.comm_rank.specs.Held.{NoneClosed}
use Rattle.comm_rank.specs.Moves.{Moved}
use Rattle.comm_rank.specs.Turns.{FirstFull, NoneOrFull}
use Rattle.comm_rank.proofs.Moves.EachRank.{Below}
use Rattle.comm_rank.proofs.put_out.put_each.Given as goal

-- the closed batches for the first ranks moved, as far as their links weren't full
abbrev pub invariant-loop-to : goal.invariant-loop-to
invariant-loop-to g l = record {
  placed : List Entry;
  moved : Moved l.fn.held l.held (g.P.Post.state l.fn.post) (g.P.Post.state l.post) placed;
  count : l.put ≡ min (length placed) (2 ^ 64 - 1);
  done : (d : ℕ) → d < l.to → NoneOrFull d l.held.queues (g.P.Post.state l.fn.post) (g.P.Post.state l.post);
  later : (d : ℕ) → l.to ≤ d → (g.P.Post.state l.post).fulls d ≡ (g.P.Post.state l.fn.post).fulls d;
  first : FirstFull l.ranks l.held.queues (g.P.Post.state l.fn.post) (g.P.Post.state l.post) l.full;
  below : Below l.to l.full;
  none : l.full ≡ None → (d : ℕ) → d < l.to → NoneClosed l.held.queues d;
}
