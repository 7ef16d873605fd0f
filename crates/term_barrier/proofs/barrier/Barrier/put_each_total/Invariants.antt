use Rattle.std.proofs.Common.{◌≡◌}
use Rattle.term_barrier.proofs.Puts.Totals.{TotalsPut}
use Rattle.term_barrier.proofs.barrier.Barrier.put_each_total.Given as goal

abbrev pub invariant-loop-next : goal.invariant-loop-next
invariant-loop-next g l = record {
  comm : l.comm ≡ l.fn.comm;
  sums : l.sums ≡ l.fn.sums;
  totals : TotalsPut g.H.Handler.apply g.H.Handler.start l.fn.comm l.next l.fn.self l.self (g.P.Post.state l.fn.post) (g.P.Post.state l.post);
}
