use Rattle.std.proofs.Common.{rules, ◌≡◌, ◌<◌, ◌≤◌, ◌-◌, true, false, IfErr, [], ap, ◌∙◌, sym, subst, arith}
use Rattle.std.proofs.lemmas.Bool.{false≢true}
use Rattle.std.proofs.lemmas.Result.{IfErr-weaker}
use Rattle.comm_rank.specs.declared.fault.CommFault.TheVariants.{NoMemory}
use Rattle.comm_rank.specs.Turns.{PutsKeep}
use Rattle.comm_rank.specs.Rank.{Rank, held_letters, local_of}
use Rattle.term_barrier.specs.contracts.barrier.Barrier.{the_view}
use Rattle.term_barrier.specs.Barriers.{BarrierState, with_letters}
use Rattle.term_barrier.specs.Polls.{IsSameBarrier, PolledLeft, Stands}
use Rattle.term_barrier.proofs.Polls.AfterTurn.{has_room, inside_still, polled_left, polled_waiting, puts_due, same_handed, same_left, same_put, stands_handed, stands_outside}
use Rattle.term_barrier.proofs.Polls.Reasons.{reason}
use Rattle.term_barrier.proofs.barrier.Barrier.after_turn.Goals as goal

pub hear_all-requires : goal.hear_all-requires
hear_all-requires g c =
    record { room = has_room g.H.Handler.apply g.H.Handler.start c.args.self.now c.args.comm.now (g.P.Post.state c.args.post.now) c.requires.stands c.holds.ensures.in_range }

pub returns-then-self-left-clause-stands : goal.returns-then-self-left-clause-stands
returns-then-self-left-clause-stands g c =
    let barrier = c.args.self.now in
    let me = c.args.comm.now in
    let post = g.P.Post.state c.args.post.now in
    let now : BarrierState = with_letters barrier me.controls in
    let is : now ≡ the_view c.self-2.inside = sym (c.self-2.view_is ∙ c.hear_all.ensures.heard) in
    let more : barrier.left < now.left =
    omega (arith, c.if-self-left.true, ap (λ (b : BarrierState). b.left) c.self.view_is, ap (λ (b : BarrierState). b.left) is) in
    subst (λ (b : BarrierState). Stands g.H.Handler.apply g.H.Handler.start (record b { inside = false }) c.hear_all.new.comm post) is
    (subst (λ (r : Rank g.row.H.Denot). Stands g.H.Handler.apply g.H.Handler.start (record now { inside = false }) r post) (sym c.hear_all.ensures.handed_over)
    (stands_outside g.H.Handler.apply g.H.Handler.start barrier me post c.requires.stands c.holds.ensures.in_range more))

pub returns-then-self-left-clause-answers : goal.returns-then-self-left-clause-answers
returns-then-self-left-clause-answers g c = λ one before same gathered ended.
    let barrier = c.args.self.now in
    let me = c.args.comm.now in
    let post = g.P.Post.state c.args.post.now in
    let now : BarrierState = with_letters barrier me.controls in
    let is : now ≡ the_view c.self-2.inside = sym (c.self-2.view_is ∙ c.hear_all.ensures.heard) in
    let left : c.self.inside.left ≡ barrier.left = ap (λ (b : BarrierState). b.left) c.self.view_is in
    let more : barrier.left < now.left = omega (arith, c.if-self-left.true, left, ap (λ (b : BarrierState). b.left) is) in
    let first : PolledLeft barrier (record now { inside = false }) (local_of me (post.log me.here)) barrier.left (now.known - 1) =
    polled_left g.H.Handler.apply g.H.Handler.start barrier me post c.requires.stands c.holds.ensures.in_range more in
    let rank : PolledLeft barrier (record now { inside = false }) (local_of c.hear_all.new.comm (post.log c.hear_all.new.comm.here)) barrier.left (now.known - 1) =
    subst (λ (r : Rank g.row.H.Denot). PolledLeft barrier (record now { inside = false }) (local_of r (post.log r.here)) barrier.left (now.known - 1))
    (sym c.hear_all.ensures.handed_over) first in
    let there : PolledLeft barrier (record now { inside = false }) (local_of c.hear_all.new.comm (post.log c.hear_all.new.comm.here)) c.self.inside.left (now.known - 1) =
    subst (λ n. PolledLeft barrier (record now { inside = false }) (local_of c.hear_all.new.comm (post.log c.hear_all.new.comm.here)) n (now.known - 1)) (sym left) rank in
    subst (λ (b : BarrierState). PolledLeft barrier (record b { inside = false }) (local_of c.hear_all.new.comm (post.log c.hear_all.new.comm.here)) c.self.inside.left (b.known - 1)) is there

pub returns-then-self-left-clause-barrier : goal.returns-then-self-left-clause-barrier
returns-then-self-left-clause-barrier g c =
    let barrier = c.args.self.now in
    let is : with_letters barrier c.args.comm.now.controls ≡ the_view c.self-2.inside = sym (c.self-2.view_is ∙ c.hear_all.ensures.heard) in
    subst (λ (b : BarrierState). IsSameBarrier barrier (record b { inside = false })) is
    (record { layout = (same_handed barrier c.args.comm.now.controls).layout; here = (same_handed barrier c.args.comm.now.controls).here; rounds = (same_handed barrier c.args.comm.now.controls).rounds })

pub put_controls-put-requires-clause-stands : goal.put_controls-put-requires-clause-stands
put_controls-put-requires-clause-stands g c =
    let post = g.P.Post.state c.args.post.now in
    subst (λ (b : BarrierState). Stands g.H.Handler.apply g.H.Handler.start b c.hear_all.new.comm post) (sym c.hear_all.ensures.heard)
    (subst (λ (r : Rank g.row.H.Denot). Stands g.H.Handler.apply g.H.Handler.start (with_letters c.args.self.now c.args.comm.now.controls) r post) (sym c.hear_all.ensures.handed_over)
    (stands_handed g.H.Handler.apply g.H.Handler.start c.args.self.now c.args.comm.now post c.requires.stands c.holds.ensures.in_range))

pub put_controls-put-requires-clause-inside : goal.put_controls-put-requires-clause-inside
put_controls-put-requires-clause-inside g c =
    ap (λ (b : BarrierState). b.inside) c.hear_all.ensures.heard
    ∙ inside_still g.H.Handler.apply g.H.Handler.start c.args.self.now c.args.comm.now (g.P.Post.state c.args.post.now) c.requires.stands c.holds.ensures.in_range
    ∙ c.requires.inside

pub returns-in_err-full-clause-barrier : goal.returns-in_err-full-clause-barrier
returns-in_err-full-clause-barrier g c =
    let barrier = c.args.self.now in
    same_put (held_letters c.hear_all.new.comm) barrier c.hear_all.new.self c.put_controls-put.new.self (g.P.Post.state c.args.post.now) (g.P.Post.state c.put_controls-put.new.post)
    (subst (IsSameBarrier barrier) (sym c.hear_all.ensures.heard) (same_handed barrier c.args.comm.now.controls)) c.put_controls-put.ensures.controls

pub returns-clause-answers : goal.returns-clause-answers
returns-clause-answers g c = λ one before same gathered ended.
    let barrier = c.args.self.now in
    let me = c.args.comm.now in
    let told : BarrierState = c.hear_all.new.self in
    let new : BarrierState = c.put_controls-put.new.self in
    let rank : Rank g.row.H.Denot = c.hear_all.new.comm in
    let post = g.P.Post.state c.args.post.now in
    let after = g.P.Post.state c.put_controls-put.new.post in
    let put = c.put_controls-put.ensures.controls in
    let here : told.here ≡ me.here = ap (λ (b : BarrierState). b.here) c.hear_all.ensures.heard ∙ (same_handed barrier me.controls).here ∙ c.requires.stands.agrees.here in
    let all_handed : rank.controls ≡ [] = ap (λ (r : Rank g.row.H.Denot). r.controls) c.hear_all.ensures.handed_over in
    let within : told.left ≤ barrier.left =
    omega (arith, c.if-self-left.false, ap (λ (b : BarrierState). b.left) c.self.view_is, ap (λ (b : BarrierState). b.left) c.self-2.view_is) in
    let heard_left : told.left ≡ barrier.left =
    ap (λ (b : BarrierState). b.left) c.hear_all.ensures.heard
    ∙ same_left g.H.Handler.apply g.H.Handler.start barrier me post c.requires.stands c.holds.ensures.in_range
    (omega (arith, within, ap (λ (b : BarrierState). b.left) c.hear_all.ensures.heard)) in
    let inside : told.inside ≡ true =
    ap (λ (b : BarrierState). b.inside) c.hear_all.ensures.heard
    ∙ inside_still g.H.Handler.apply g.H.Handler.start barrier me post c.requires.stands c.holds.ensures.in_range ∙ c.requires.inside in (
      record { same_left = ap (λ (b : BarrierState). b.left) put.barrier ∙ heard_left; inside = ap (λ (b : BarrierState). b.inside) put.barrier ∙ inside },
      reason g.H.Handler.apply g.H.Handler.start one me before post after c.args.turn same ended gathered
          (subst (λ h. PutsKeep h post after) here put.keeps) new rank c.in_ok-full.full c.why.result c.holds-3.ensures.in_range all_handed
          c.hear_all.ensures.handed_over c.put_controls-put.ensures.stands c.in_ok-full.ensures.due
          c.why.ensures.worked c.why.ensures.link c.why.ensures.other,
    )

pub returns-clause-barrier : goal.returns-clause-barrier
returns-clause-barrier g c =
    let barrier = c.args.self.now in
    same_put (held_letters c.hear_all.new.comm) barrier c.hear_all.new.self c.put_controls-put.new.self (g.P.Post.state c.args.post.now) (g.P.Post.state c.put_controls-put.new.post)
    (subst (IsSameBarrier barrier) (sym c.hear_all.ensures.heard) (same_handed barrier c.args.comm.now.controls)) c.put_controls-put.ensures.controls

pub returns-then-self-left-clause-due : goal.returns-then-self-left-clause-due
returns-then-self-left-clause-due g c = λ inside. absurd (false≢true inside)

pub returns-clause-due : goal.returns-clause-due
returns-clause-due g c = λ inside.
    puts_due (held_letters c.hear_all.new.comm) c.put_controls-put.new.self c.in_ok-full.full (g.P.Post.state c.args.post.now) (g.P.Post.state c.put_controls-put.new.post) c.in_ok-full.ensures.due

pub returns-in_err-full-clause-no_memory : goal.returns-in_err-full-clause-no_memory
returns-in_err-full-clause-no_memory g c =
    let barrier = c.args.self.now in
    let me = c.args.comm.now in
    let told : BarrierState = c.hear_all.new.self in
    let within : told.left ≤ barrier.left =
    omega (arith, c.if-self-left.false, ap (λ (b : BarrierState). b.left) c.self.view_is, ap (λ (b : BarrierState). b.left) c.self-2.view_is) in
    let heard_left : told.left ≡ barrier.left =
    ap (λ (b : BarrierState). b.left) c.hear_all.ensures.heard
    ∙ same_left g.H.Handler.apply g.H.Handler.start barrier me (g.P.Post.state c.args.post.now) c.requires.stands c.holds.ensures.in_range
    (omega (arith, within, ap (λ (b : BarrierState). b.left) c.hear_all.ensures.heard)) in
    let inside : told.inside ≡ true =
    ap (λ (b : BarrierState). b.inside) c.hear_all.ensures.heard
    ∙ inside_still g.H.Handler.apply g.H.Handler.start barrier me (g.P.Post.state c.args.post.now) c.requires.stands c.holds.ensures.in_range ∙ c.requires.inside in
    let there : IfErr c.from_residual.result (λ fault. fault ≡ NoMemory) = search rules in
    IfErr-weaker c.from_residual.result _ _
    (λ fault no_memory. (
      no_memory,
      polled_waiting (held_letters c.hear_all.new.comm) barrier told c.put_controls-put.new.self (g.P.Post.state c.args.post.now)
          (g.P.Post.state c.put_controls-put.new.post) heard_left inside c.put_controls-put.ensures.controls,
    )) there
