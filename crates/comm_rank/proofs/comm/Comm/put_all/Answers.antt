use Rattle.std.proofs.Common.{map, ◌≡◌, ◌≤◌, ℕ, refl, sym, ap, ◌∙◌, subst, arith}
use Rattle.msg_codec.specs.Control.{letter_of_control}
use Rattle.std.proofs.lemmas.Result.{IfErr-weaker, IfOk-weaker}
use Rattle.send_buffers.specs.Buffers.{Buffered}
use Rattle.ygm_route.specs.Layout.{Shape}
use Rattle.world_core.specs.Limits.{most_letters}
use Rattle.world_core.specs.Post.{PostState}
use Rattle.world_core.specs.Rules.{IsHonest}
use Rattle.comm_rank.specs.Agrees.{Belongs, MayTurn}
use Rattle.comm_rank.specs.Rank.{Rank, local_of}
use Rattle.comm_rank.specs.Moves.{HasPutAll, PutAllFailed}
use Rattle.comm_rank.specs.Turns.{PutsKeep}
use Rattle.comm_rank.proofs.Agrees.AfterPuts.{AreHeldBy, belongs_after, has_put_all, honest_after, may_put, may_turn_after, moved_each, put_all_failed, puts_keep_after}
use Rattle.comm_rank.proofs.comm.Comm.put_all.Goals as goal

pub put_each-put-requires-clause-may_put : goal.put_each-put-requires-clause-may_put
put_each-put-requires-clause-may_put g c =
    let i = c.self.inside in
    let me : Rank g.row.H.Denot = record { layout = i.layout; scheme = i.scheme; here = i.here; most = i.limits.letters; contents = i.handler; sent_count = i.sent.count; run_count = i.ran; held = i.held.queues; waiting = i.waiting; controls = map letter_of_control i.controls.items; stopped = i.stopped; heard = g.T.Tap.heard i.tap } in
    let is : me ≡ c.args.self.now = c.self.view_is in
    let are : AreHeldBy me i.held = record { are = c.self.invariant.4; queues = refl } in
    let old : PostState = g.P.Post.state c.args.post.now in
    let belongs : Belongs g.H.Handler.apply g.H.Handler.start me old = subst (λ m. Belongs g.H.Handler.apply g.H.Handler.start m old) (sym is) c.requires.belongs in
    let may : MayTurn me (old.log me.here) = subst (λ (m : Rank g.row.H.Denot). MayTurn m (old.log m.here)) (sym is) c.requires.may_turn in
    let few : me.sent_count ≤ most_letters = omega (arith, c.count.ensures.value, c.if-prove.false, i.limits.few_letters) in
    may_put g.H.Handler.apply g.H.Handler.start me old belongs may i.held are few

pub put_each-put-requires-clause-here : goal.put_each-put-requires-clause-here
put_each-put-requires-clause-here g c =
    sym c.self.invariant.4.here_is

pub put_each-put-requires-clause-ranks : goal.put_each-put-requires-clause-ranks
put_each-put-requires-clause-ranks g c =
    c.ranks.ensures.value ∙ ap (λ (s : Shape). s.ranks) (sym c.self.invariant.4.layout_is)

pub returns-clause-put : goal.returns-clause-put
returns-clause-put g c =
    let i = c.self.inside in
    let me : Rank g.row.H.Denot = record { layout = i.layout; scheme = i.scheme; here = i.here; most = i.limits.letters; contents = i.handler; sent_count = i.sent.count; run_count = i.ran; held = i.held.queues; waiting = i.waiting; controls = map letter_of_control i.controls.items; stopped = i.stopped; heard = g.T.Tap.heard i.tap } in
    let is : me ≡ c.args.self.now = c.self.view_is in
    let are : AreHeldBy me i.held = record { are = c.self.invariant.4; queues = refl } in
    let old : PostState = g.P.Post.state c.args.post.now in
    let belongs : Belongs g.H.Handler.apply g.H.Handler.start me old = subst (λ m. Belongs g.H.Handler.apply g.H.Handler.start m old) (sym is) c.requires.belongs in
    let may : MayTurn me (old.log me.here) = subst (λ (m : Rank g.row.H.Denot). MayTurn m (old.log m.here)) (sym is) c.requires.may_turn in
    let few : me.sent_count ≤ most_letters = omega (arith, c.count.ensures.value, c.if-prove.false, i.limits.few_letters) in
    let new : PostState = g.P.Post.state c.put_each-put.new.post in
    let after : Buffered = c.put_each-put.new.held in
    IfOk-weaker c.put_each-put.result _ _
    (λ what p. subst (λ (m : Rank g.row.H.Denot). HasPutAll m (record me { held = after.queues }) old new what.0 what.1) is
    (has_put_all g.H.Handler.apply g.H.Handler.start me old belongs may i.held are after new what.0 what.1 _ c.ranks.ensures.value c.holds.ensures.routed few p)) c.put_each-put.ensures.put

pub returns-clause-failed : goal.returns-clause-failed
returns-clause-failed g c =
    let i = c.self.inside in
    let me : Rank g.row.H.Denot = record { layout = i.layout; scheme = i.scheme; here = i.here; most = i.limits.letters; contents = i.handler; sent_count = i.sent.count; run_count = i.ran; held = i.held.queues; waiting = i.waiting; controls = map letter_of_control i.controls.items; stopped = i.stopped; heard = g.T.Tap.heard i.tap } in
    let is : me ≡ c.args.self.now = c.self.view_is in
    let are : AreHeldBy me i.held = record { are = c.self.invariant.4; queues = refl } in
    let old : PostState = g.P.Post.state c.args.post.now in
    let belongs : Belongs g.H.Handler.apply g.H.Handler.start me old = subst (λ m. Belongs g.H.Handler.apply g.H.Handler.start m old) (sym is) c.requires.belongs in
    let may : MayTurn me (old.log me.here) = subst (λ (m : Rank g.row.H.Denot). MayTurn m (old.log m.here)) (sym is) c.requires.may_turn in
    let few : me.sent_count ≤ most_letters = omega (arith, c.count.ensures.value, c.if-prove.false, i.limits.few_letters) in
    let new : PostState = g.P.Post.state c.put_each-put.new.post in
    let after : Buffered = c.put_each-put.new.held in
    IfErr-weaker c.put_each-put.result _ _
    (λ fault f. subst (λ (m : Rank g.row.H.Denot). PutAllFailed m (record me { held = after.queues }) old new fault) is
    (put_all_failed g.H.Handler.apply g.H.Handler.start me old belongs may i.held are after new fault few f)) c.put_each-put.ensures.failed

pub returns-clause-belongs : goal.returns-clause-belongs
returns-clause-belongs g c =
    let i = c.self.inside in
    let me : Rank g.row.H.Denot = record { layout = i.layout; scheme = i.scheme; here = i.here; most = i.limits.letters; contents = i.handler; sent_count = i.sent.count; run_count = i.ran; held = i.held.queues; waiting = i.waiting; controls = map letter_of_control i.controls.items; stopped = i.stopped; heard = g.T.Tap.heard i.tap } in
    let is : me ≡ c.args.self.now = c.self.view_is in
    let are : AreHeldBy me i.held = record { are = c.self.invariant.4; queues = refl } in
    let old : PostState = g.P.Post.state c.args.post.now in
    let belongs : Belongs g.H.Handler.apply g.H.Handler.start me old = subst (λ m. Belongs g.H.Handler.apply g.H.Handler.start m old) (sym is) c.requires.belongs in
    let may : MayTurn me (old.log me.here) = subst (λ (m : Rank g.row.H.Denot). MayTurn m (old.log m.here)) (sym is) c.requires.may_turn in
    let few : me.sent_count ≤ most_letters = omega (arith, c.count.ensures.value, c.if-prove.false, i.limits.few_letters) in
    let new : PostState = g.P.Post.state c.put_each-put.new.post in
    let after : Buffered = c.put_each-put.new.held in
    let m = moved_each _ i.held after old new c.put_each-put.result c.put_each-put.ensures.put c.put_each-put.ensures.failed in
    belongs_after g.H.Handler.apply g.H.Handler.start me old belongs may i.held are after new m.0 m.1 few

pub returns-clause-may_turn : goal.returns-clause-may_turn
returns-clause-may_turn g c =
    let i = c.self.inside in
    let me : Rank g.row.H.Denot = record { layout = i.layout; scheme = i.scheme; here = i.here; most = i.limits.letters; contents = i.handler; sent_count = i.sent.count; run_count = i.ran; held = i.held.queues; waiting = i.waiting; controls = map letter_of_control i.controls.items; stopped = i.stopped; heard = g.T.Tap.heard i.tap } in
    let is : me ≡ c.args.self.now = c.self.view_is in
    let are : AreHeldBy me i.held = record { are = c.self.invariant.4; queues = refl } in
    let old : PostState = g.P.Post.state c.args.post.now in
    let belongs : Belongs g.H.Handler.apply g.H.Handler.start me old = subst (λ m. Belongs g.H.Handler.apply g.H.Handler.start m old) (sym is) c.requires.belongs in
    let may : MayTurn me (old.log me.here) = subst (λ (m : Rank g.row.H.Denot). MayTurn m (old.log m.here)) (sym is) c.requires.may_turn in
    let few : me.sent_count ≤ most_letters = omega (arith, c.count.ensures.value, c.if-prove.false, i.limits.few_letters) in
    let new : PostState = g.P.Post.state c.put_each-put.new.post in
    let after : Buffered = c.put_each-put.new.held in
    let m = moved_each _ i.held after old new c.put_each-put.result c.put_each-put.ensures.put c.put_each-put.ensures.failed in
    let P : ℕ → Type 0 = λ h. MayTurn (record me { held = after.queues }) (new.log h) in
    subst P (ap (λ (m : Rank g.row.H.Denot). m.here) is) (may_turn_after g.H.Handler.apply g.H.Handler.start me old belongs may i.held are after new m.0 m.1 few)

pub returns-clause-honest : goal.returns-clause-honest
returns-clause-honest g c =
    let i = c.self.inside in
    let me : Rank g.row.H.Denot = record { layout = i.layout; scheme = i.scheme; here = i.here; most = i.limits.letters; contents = i.handler; sent_count = i.sent.count; run_count = i.ran; held = i.held.queues; waiting = i.waiting; controls = map letter_of_control i.controls.items; stopped = i.stopped; heard = g.T.Tap.heard i.tap } in
    let is : me ≡ c.args.self.now = c.self.view_is in
    let are : AreHeldBy me i.held = record { are = c.self.invariant.4; queues = refl } in
    let old : PostState = g.P.Post.state c.args.post.now in
    let belongs : Belongs g.H.Handler.apply g.H.Handler.start me old = subst (λ m. Belongs g.H.Handler.apply g.H.Handler.start m old) (sym is) c.requires.belongs in
    let may : MayTurn me (old.log me.here) = subst (λ (m : Rank g.row.H.Denot). MayTurn m (old.log m.here)) (sym is) c.requires.may_turn in
    let few : me.sent_count ≤ most_letters = omega (arith, c.count.ensures.value, c.if-prove.false, i.limits.few_letters) in
    let new : PostState = g.P.Post.state c.put_each-put.new.post in
    let after : Buffered = c.put_each-put.new.held in
    let m = moved_each _ i.held after old new c.put_each-put.result c.put_each-put.ensures.put c.put_each-put.ensures.failed in
    subst (λ (m : Rank g.row.H.Denot). IsHonest (local_of m (old.log m.here)) → IsHonest (local_of m (new.log m.here))) is
    (honest_after g.H.Handler.apply g.H.Handler.start me old belongs may i.held are after new m.0 m.1 few)

pub returns-clause-keeps : goal.returns-clause-keeps
returns-clause-keeps g c =
    let i = c.self.inside in
    let me : Rank g.row.H.Denot = record { layout = i.layout; scheme = i.scheme; here = i.here; most = i.limits.letters; contents = i.handler; sent_count = i.sent.count; run_count = i.ran; held = i.held.queues; waiting = i.waiting; controls = map letter_of_control i.controls.items; stopped = i.stopped; heard = g.T.Tap.heard i.tap } in
    let is : me ≡ c.args.self.now = c.self.view_is in
    let are : AreHeldBy me i.held = record { are = c.self.invariant.4; queues = refl } in
    let old : PostState = g.P.Post.state c.args.post.now in
    let belongs : Belongs g.H.Handler.apply g.H.Handler.start me old = subst (λ m. Belongs g.H.Handler.apply g.H.Handler.start m old) (sym is) c.requires.belongs in
    let may : MayTurn me (old.log me.here) = subst (λ (m : Rank g.row.H.Denot). MayTurn m (old.log m.here)) (sym is) c.requires.may_turn in
    let few : me.sent_count ≤ most_letters = omega (arith, c.count.ensures.value, c.if-prove.false, i.limits.few_letters) in
    let new : PostState = g.P.Post.state c.put_each-put.new.post in
    let after : Buffered = c.put_each-put.new.held in
    let m = moved_each _ i.held after old new c.put_each-put.result c.put_each-put.ensures.put c.put_each-put.ensures.failed in
    subst (λ h. PutsKeep h old new) (ap (λ (m : Rank g.row.H.Denot). m.here) is) (puts_keep_after g.H.Handler.apply g.H.Handler.start me old belongs may i.held are after new m.0 m.1 few)
