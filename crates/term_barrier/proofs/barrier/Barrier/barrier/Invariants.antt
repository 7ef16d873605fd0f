use Rattle.std.proofs.Common.{true}
use Rattle.term_barrier.specs.Polls.{HasWaited}
use Rattle.term_barrier.proofs.barrier.Barrier.barrier.Given as goal

abbrev pub invariant-loop : goal.invariant-loop
invariant-loop g l =
    HasWaited g.H.Handler.apply g.H.Handler.start (record l.fn.self { inside = true }) l.self l.fn.comm l.comm
    (g.P.Post.state l.fn.post) (g.P.Post.state l.post)
