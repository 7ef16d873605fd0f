use Rattle.std.proofs.Common.{◌≡◌, suc, ◌+◌, ◌≤◌, Ok, refl, ap, ◌∙◌, sym, subst, arith}
use Rattle.comm_rank.specs.Rank.{held_letters}
use Rattle.comm_rank.proofs.Moves.OnePut.{keeps_none}
use Rattle.term_barrier.specs.Barriers.{BarrierState, destination, with_total_put}
use Rattle.term_barrier.proofs.Puts.Moved.{put_none}
use Rattle.term_barrier.proofs.Puts.Totals.{TotalsPut, controls_then, totals_first, totals_more}
use Rattle.term_barrier.proofs.barrier.Barrier.put_each_total.Goals as goal

pub loop-next-init : goal.loop-next-init
loop-next-init g c =
    let post = g.P.Post.state c.args.post.now in
    let barrier = c.args.self.now in
    let next : c.self.inside.next ≡ barrier.next = ap (λ (b : BarrierState). b.next) c.self.view_is in
    let within : barrier.next ≤ barrier.layout.ranks =
    omega (arith, c.self.invariant.next_within.1, next, ap (λ (b : BarrierState). b.layout.ranks) c.self.view_is) in
    record {
      comm = refl;
      sums = refl;
      totals = subst (λ k. TotalsPut g.H.Handler.apply g.H.Handler.start c.args.comm.now k barrier barrier post post) (sym next)
          (totals_first g.H.Handler.apply g.H.Handler.start c.args.comm.now barrier post c.requires.stands within
          (put_none (held_letters c.args.comm.now) barrier post post refl (keeps_none barrier.here post)));
    }

pub returns-in_err-put_total-clause-controls : goal.returns-in_err-put_total-clause-controls
returns-in_err-put_total-clause-controls g c =
    controls_then (held_letters c.args.comm.now) c.args.self.now c.loop-next.self c.put_total.new.self (g.P.Post.state c.args.post.now)
    (g.P.Post.state c.loop-next.post) (g.P.Post.state c.put_total.new.post) c.loop-next.invariant.totals.controls c.put_total.ensures.controls

pub returns-then-not-branch-clause-controls : goal.returns-then-not-branch-clause-controls
returns-then-not-branch-clause-controls g c =
    controls_then (held_letters c.args.comm.now) c.args.self.now c.loop-next.self c.put_total.new.self (g.P.Post.state c.args.post.now)
    (g.P.Post.state c.loop-next.post) (g.P.Post.state c.put_total.new.post) c.loop-next.invariant.totals.controls c.put_total.ensures.controls

pub loop-next-preserved : goal.loop-next-preserved
loop-next-preserved g c =
    let barrier = c.args.self.now in
    let me = c.args.comm.now in
    let old = g.P.Post.state c.args.post.now in
    let mid = g.P.Post.state c.loop-next.post in
    let new = g.P.Post.state c.put_total.new.post in
    let ranks : c.ranks-ranks.result ≡ barrier.layout.ranks = c.ranks-ranks.ensures.value ∙ ap (λ (b : BarrierState). b.layout.ranks) c.self.view_is in
    let to : c.destination-to.result ≡ destination barrier.layout.ranks c.loop-next.next =
    c.destination-to.ensures ∙ ap (λ n. destination n c.loop-next.next) ranks in
    let put = c.put_total.ensures.put (c.in_ok-put_total.was ∙ ap Ok c.if-not-branch.false) in
    let is : c.put_total.new.self ≡ with_total_put c.loop-next.self (destination barrier.layout.ranks c.loop-next.next) =
    put.0 ∙ ap (with_total_put c.loop-next.self) to in
    let number : suc c.loop-next.next ≡ c.loop-next.next + 1 = omega arith in
    record {
      comm = refl;
      sums = refl;
      totals = subst (λ k. TotalsPut g.H.Handler.apply g.H.Handler.start me k barrier c.put_total.new.self old new) number
          (totals_more g.H.Handler.apply g.H.Handler.start me barrier old c.loop-next.next c.loop-next.self mid c.loop-next.invariant.totals
          (omega (arith, c.loop-next-test.true, ranks)) (omega (arith, c.self.invariant.next_within.0, c.loop-next.auto.next))
          c.put_total.new.self new is put.1 c.put_total.ensures.controls c.put_total.ensures.stands);
    }
