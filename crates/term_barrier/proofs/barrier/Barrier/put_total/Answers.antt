use Rattle.std.proofs.Common.{◌≡◌, Bool, true, [], ◌∷◌, ap, ◌∙◌, sym, subst}
use Rattle.msg_codec.specs.Control.{letter_of_control}
use Rattle.msg_codec.specs.declared.control.Control.TheVariants.{Total}
use Rattle.world_core.specs.Post.{PutDone, PutFoundFull}
use Rattle.comm_rank.specs.Rank.{held_letters}
use Rattle.world_core.specs.Rounds.{Sums}
use Rattle.term_barrier.specs.contracts.barrier.Barrier.{the_view}
use Rattle.term_barrier.specs.contracts.heard.RoundSums.{the_view as sums_view}
use Rattle.term_barrier.specs.Barriers.{BarrierState, IsTotalDue, with_total_put}
use Rattle.term_barrier.specs.Polls.{HasPutControls, PutsLetter, Stands}
use Rattle.term_barrier.proofs.Puts.Moved.{keeps_done, keeps_full, put_none, total_controls, total_stands, total_unbroken}
use Rattle.term_barrier.proofs.barrier.Barrier.put_total.Goals as goal

pub put_letter-requires-clause-honest : goal.put_letter-requires-clause-honest
put_letter-requires-clause-honest g c =
    let old = g.P.Post.state c.args.post.now in
    let barrier : BarrierState = the_view c.self.inside in
    let sums : Sums = sums_view c.sums.inside in
    let stands : Stands g.H.Handler.apply g.H.Handler.start barrier c.args.comm.now old =
    subst (λ (b : BarrierState). Stands g.H.Handler.apply g.H.Handler.start b c.args.comm.now old) (sym c.self.view_is) c.requires.stands in
    let due : IsTotalDue barrier c.args.to sums =
    subst (λ (s : Sums). IsTotalDue barrier c.args.to s) (sym c.sums.view_is)
    (subst (λ (b : BarrierState). IsTotalDue b c.args.to c.args.sums) (sym c.self.view_is) c.requires.due) in
    let first : barrier.here ≡ 0 = ap (λ (b : BarrierState). b.here) c.self.view_is ∙ c.requires.first_rank in
    total_unbroken g.H.Handler.apply g.H.Handler.start barrier c.args.comm.now old stands c.self.invariant c.requires.all_handed
    first c.args.to sums due c.ranges.to.fits

pub returns-in_err-put_letter-clause-controls : goal.returns-in_err-put_letter-clause-controls
returns-in_err-put_letter-clause-controls g c =
    let old = g.P.Post.state c.args.post.now in
    let new = g.P.Post.state c.put_letter.new.post in
    let not_put = c.in_err-put_letter.ensures.not_put in
    subst (λ (b : BarrierState). HasPutControls (held_letters c.args.comm.now) b b old new) c.self.view_is
    (put_none (held_letters c.args.comm.now) (the_view c.self.inside) old new not_put.1
    (keeps_done c.self.inside.here old new c.in_err-put_letter.ensures.keeps not_put.2))

pub returns-then-not-branch-clause-controls : goal.returns-then-not-branch-clause-controls
returns-then-not-branch-clause-controls g c =
    let old = g.P.Post.state c.args.post.now in
    let new = g.P.Post.state c.put_letter.new.post in
    let l = letter_of_control (Total c.args.to c.self.inside.over c.sums.inside.sent c.sums.inside.run) in
    let full : PutFoundFull c.self.inside.here c.args.to old new =
    subst (λ (b : Bool). PutsLetter b c.self.inside.here c.args.to l old new) c.if-not-branch.true c.in_ok-put_letter.ensures.put in
    subst (λ (b : BarrierState). HasPutControls (held_letters c.args.comm.now) b b old new) c.self.view_is
    (put_none (held_letters c.args.comm.now) (the_view c.self.inside) old new full.log
    (keeps_full c.self.inside.here c.args.to old new c.in_ok-put_letter.ensures.keeps full.fulls))

pub returns-clause-controls : goal.returns-clause-controls
returns-clause-controls g c =
    let old = g.P.Post.state c.args.post.now in
    let new = g.P.Post.state c.put_letter.new.post in
    let barrier : BarrierState = the_view c.self.inside in
    let sums : Sums = sums_view c.sums.inside in
    let stands : Stands g.H.Handler.apply g.H.Handler.start barrier c.args.comm.now old =
    subst (λ (b : BarrierState). Stands g.H.Handler.apply g.H.Handler.start b c.args.comm.now old) (sym c.self.view_is) c.requires.stands in
    let due : IsTotalDue barrier c.args.to sums =
    subst (λ (s : Sums). IsTotalDue barrier c.args.to s) (sym c.sums.view_is)
    (subst (λ (b : BarrierState). IsTotalDue b c.args.to c.args.sums) (sym c.self.view_is) c.requires.due) in
    let first : barrier.here ≡ 0 = ap (λ (b : BarrierState). b.here) c.self.view_is ∙ c.requires.first_rank in
    let l = letter_of_control (Total c.args.to c.self.inside.over c.sums.inside.sent c.sums.inside.run) in
    let done : PutDone c.self.inside.here c.args.to (l ∷ []) old new =
    subst (λ (b : Bool). PutsLetter b c.self.inside.here c.args.to l old new) c.if-not-branch.false c.in_ok-put_letter.ensures.put in
    let held = held_letters c.args.comm.now in
    let now = total_controls g.H.Handler.apply g.H.Handler.start barrier c.args.comm.now old stands c.self.invariant c.requires.all_handed
    first c.args.to sums due c.ranges.to.fits new done c.in_ok-put_letter.ensures.keeps in
    subst (λ (b : BarrierState). HasPutControls held c.args.self.now b old new) (sym c.has_put_total.ensures.noted)
    (subst (λ (b : BarrierState). HasPutControls held b (with_total_put b c.args.to) old new) c.self.view_is now)

pub returns-clause-stands : goal.returns-clause-stands
returns-clause-stands g c =
    let old = g.P.Post.state c.args.post.now in
    let new = g.P.Post.state c.put_letter.new.post in
    let barrier : BarrierState = the_view c.self.inside in
    let sums : Sums = sums_view c.sums.inside in
    let stands : Stands g.H.Handler.apply g.H.Handler.start barrier c.args.comm.now old =
    subst (λ (b : BarrierState). Stands g.H.Handler.apply g.H.Handler.start b c.args.comm.now old) (sym c.self.view_is) c.requires.stands in
    let due : IsTotalDue barrier c.args.to sums =
    subst (λ (s : Sums). IsTotalDue barrier c.args.to s) (sym c.sums.view_is)
    (subst (λ (b : BarrierState). IsTotalDue b c.args.to c.args.sums) (sym c.self.view_is) c.requires.due) in
    let first : barrier.here ≡ 0 = ap (λ (b : BarrierState). b.here) c.self.view_is ∙ c.requires.first_rank in
    let l = letter_of_control (Total c.args.to c.self.inside.over c.sums.inside.sent c.sums.inside.run) in
    let done : PutDone c.self.inside.here c.args.to (l ∷ []) old new =
    subst (λ (b : Bool). PutsLetter b c.self.inside.here c.args.to l old new) c.if-not-branch.false c.in_ok-put_letter.ensures.put in
    let inside : barrier.inside ≡ true = ap (λ (b : BarrierState). b.inside) c.self.view_is ∙ c.requires.inside in
    let now = total_stands g.H.Handler.apply g.H.Handler.start barrier c.args.comm.now old stands c.self.invariant c.requires.all_handed
    first c.args.to sums due c.ranges.to.fits new done c.in_ok-put_letter.ensures.keeps inside in
    subst (λ (b : BarrierState). Stands g.H.Handler.apply g.H.Handler.start b c.args.comm.now new) (sym c.has_put_total.ensures.noted)
    (subst (λ (b : BarrierState). Stands g.H.Handler.apply g.H.Handler.start (with_total_put b c.args.to) c.args.comm.now new) c.self.view_is now)
