use Rattle.std.proofs.Common.{◌≤◌, Bool, [], ◌∷◌, ap, ◌∙◌, sym, subst, arith}
use Rattle.msg_codec.specs.Control.{letter_of_control}
use Rattle.msg_codec.specs.declared.control.Control.TheVariants.{Count}
use Rattle.world_core.specs.Post.{PutDone, PutFoundFull}
use Rattle.comm_rank.specs.Rank.{held_letters}
use Rattle.term_barrier.specs.contracts.barrier.Barrier.{the_view}
use Rattle.term_barrier.specs.Barriers.{BarrierState, with_count_put}
use Rattle.term_barrier.specs.Polls.{HasPutControls, PutsLetter, Stands}
use Rattle.term_barrier.proofs.Puts.Moved.{count_controls, count_stands, count_unbroken, keeps_done, keeps_full, put_none}
use Rattle.term_barrier.proofs.barrier.Barrier.put_count.Goals as goal

pub put_letter-requires-clause-honest : goal.put_letter-requires-clause-honest
put_letter-requires-clause-honest g c =
    let post = g.P.Post.state c.args.post.now in
    let barrier : BarrierState = the_view c.self.inside in
    let stands : Stands g.H.Handler.apply g.H.Handler.start barrier c.args.comm.now post =
    subst (λ (b : BarrierState). Stands g.H.Handler.apply g.H.Handler.start b c.args.comm.now post) (sym c.self.view_is) c.requires.stands in
    count_unbroken g.H.Handler.apply g.H.Handler.start barrier c.args.comm.now post stands c.self.invariant c.requires.all_handed
    c.sent_count.result c.run_count.result c.sent_count.ensures.value c.run_count.ensures (c.has_count_due.ensures.idle c.if-not-has_count_due.false)
    (subst (λ (b : BarrierState). b.counted ≤ b.known) (sym c.self.view_is) (c.has_count_due.ensures.known c.if-not-has_count_due.false))
    (omega arith, record { round_fits = omega arith; sent_fits = omega arith; run_fits = omega arith })

pub returns-in_err-put_letter-clause-controls : goal.returns-in_err-put_letter-clause-controls
returns-in_err-put_letter-clause-controls g c =
    let old = g.P.Post.state c.args.post.now in
    let new = g.P.Post.state c.put_letter.new.post in
    let not_put = c.in_err-put_letter.ensures.not_put in
    subst (λ (b : BarrierState). HasPutControls (held_letters c.args.comm.now) b b old new) c.self.view_is
    (put_none (held_letters c.args.comm.now) (the_view c.self.inside) old new not_put.1
    (keeps_done c.self.inside.here old new c.in_err-put_letter.ensures.keeps not_put.2))

pub returns-then-not-branch-clause-controls : goal.returns-then-not-branch-clause-controls
returns-then-not-branch-clause-controls g c =
    let old = g.P.Post.state c.args.post.now in
    let new = g.P.Post.state c.put_letter.new.post in
    let l = letter_of_control (Count c.self.inside.here c.self.inside.counted c.sent_count.result c.run_count.result) in
    let full : PutFoundFull c.self.inside.here 0 old new =
    subst (λ (b : Bool). PutsLetter b c.self.inside.here 0 l old new) c.if-not-branch.true c.in_ok-put_letter.ensures.put in
    subst (λ (b : BarrierState). HasPutControls (held_letters c.args.comm.now) b b old new) c.self.view_is
    (put_none (held_letters c.args.comm.now) (the_view c.self.inside) old new full.log
    (keeps_full c.self.inside.here 0 old new c.in_ok-put_letter.ensures.keeps full.fulls))

pub returns-clause-controls : goal.returns-clause-controls
returns-clause-controls g c =
    let old = g.P.Post.state c.args.post.now in
    let new = g.P.Post.state c.put_letter.new.post in
    let barrier : BarrierState = the_view c.self.inside in
    let stands : Stands g.H.Handler.apply g.H.Handler.start barrier c.args.comm.now old =
    subst (λ (b : BarrierState). Stands g.H.Handler.apply g.H.Handler.start b c.args.comm.now old) (sym c.self.view_is) c.requires.stands in
    let l = letter_of_control (Count c.self.inside.here c.self.inside.counted c.sent_count.result c.run_count.result) in
    let done : PutDone c.self.inside.here 0 (l ∷ []) old new =
    subst (λ (b : Bool). PutsLetter b c.self.inside.here 0 l old new) c.if-not-branch.false c.in_ok-put_letter.ensures.put in
    subst (λ (b : BarrierState). HasPutControls (held_letters c.args.comm.now) b (with_count_put barrier) old new) c.self.view_is
    (count_controls g.H.Handler.apply g.H.Handler.start barrier c.args.comm.now old stands c.self.invariant c.requires.all_handed
    c.sent_count.result c.run_count.result c.sent_count.ensures.value c.run_count.ensures (c.has_count_due.ensures.idle c.if-not-has_count_due.false)
    (subst (λ (b : BarrierState). b.counted ≤ b.known) (sym c.self.view_is) (c.has_count_due.ensures.known c.if-not-has_count_due.false))
    (omega arith, record { round_fits = omega arith; sent_fits = omega arith; run_fits = omega arith })
    new done c.in_ok-put_letter.ensures.keeps)

pub returns-clause-stands : goal.returns-clause-stands
returns-clause-stands g c =
    let old = g.P.Post.state c.args.post.now in
    let new = g.P.Post.state c.put_letter.new.post in
    let barrier : BarrierState = the_view c.self.inside in
    let stands : Stands g.H.Handler.apply g.H.Handler.start barrier c.args.comm.now old =
    subst (λ (b : BarrierState). Stands g.H.Handler.apply g.H.Handler.start b c.args.comm.now old) (sym c.self.view_is) c.requires.stands in
    let l = letter_of_control (Count c.self.inside.here c.self.inside.counted c.sent_count.result c.run_count.result) in
    let done : PutDone c.self.inside.here 0 (l ∷ []) old new =
    subst (λ (b : Bool). PutsLetter b c.self.inside.here 0 l old new) c.if-not-branch.false c.in_ok-put_letter.ensures.put in
    count_stands g.H.Handler.apply g.H.Handler.start barrier c.args.comm.now old stands c.self.invariant c.requires.all_handed
    c.sent_count.result c.run_count.result c.sent_count.ensures.value c.run_count.ensures (c.has_count_due.ensures.idle c.if-not-has_count_due.false)
    (subst (λ (b : BarrierState). b.counted ≤ b.known) (sym c.self.view_is) (c.has_count_due.ensures.known c.if-not-has_count_due.false))
    (omega arith, record { round_fits = omega arith; sent_fits = omega arith; run_fits = omega arith })
    new done c.in_ok-put_letter.ensures.keeps (ap (λ (b : BarrierState). b.inside) c.self.view_is ∙ c.requires.inside)
