use Rattle.std.proofs.Common.{◌≡◌, ◌<◌, ◌≤◌, ℕ}
use Rattle.comm_rank.specs.Agrees.{Belongs, MayTurn}
use Rattle.comm_rank.specs.Rank.{Worked}
use Rattle.comm_rank.specs.Running.{NotLookedAt, TakesKeep, TookBelow}
use Rattle.comm_rank.specs.Turns.{LookedAt}
use Rattle.comm_rank.proofs.comm.Comm.take_all.Given as goal

-- what was taken from the first ranks ran
abbrev pub invariant-loop-from : goal.invariant-loop-from
invariant-loop-from g l = record {
  taken : TookBelow l.from g.H.Handler.apply l.fn.self l.self ((g.P.Post.state l.fn.post).log l.fn.self.here) ((g.P.Post.state l.post).log l.fn.self.here) l.took;
  belongs : Belongs g.H.Handler.apply g.H.Handler.start l.self (g.P.Post.state l.post);
  may_turn : MayTurn l.self ((g.P.Post.state l.post).log l.fn.self.here);
  looked : (k : ℕ) → k < l.from → LookedAt l.fn.self.here k (g.P.Post.state l.fn.post) (g.P.Post.state l.post);
  others : (k : ℕ) → l.from ≤ k → NotLookedAt l.fn.self.here k (g.P.Post.state l.fn.post) (g.P.Post.state l.post);
  keeps : TakesKeep l.fn.self (g.P.Post.state l.fn.post) (g.P.Post.state l.post);
  rank : Worked l.fn.self l.self;
  ranks : l.from-end ≡ l.fn.self.layout.ranks;
  few : l.took ≤ l.from;
}
