use Rattle.std.proofs.Common.{map, ◌≡◌, ℕ, List, refl, sym, ap, subst, lt-ltb}
use Rattle.msg_codec.specs.Control.{letter_of_control}
use Rattle.msg_codec.specs.declared.letter.Letter.{Letter}
use Rattle.comm_rank.specs.Agrees.{Agrees}
use Rattle.comm_rank.specs.Rank.{HasSent, Rank}
use Rattle.list_facts.proofs.Outcomes.{either_of, ok_both}
use Rattle.comm_rank.proofs.Agrees.AfterSend.{agrees_sent, agrees_unchanged}
use Rattle.comm_rank.proofs.Rank.Sent.{has_sent}
use Rattle.comm_rank.proofs.comm.Comm.send.Goals as goal

pub returns-clause-sent : goal.returns-clause-sent
returns-clause-sent g c =
    let i = c.self.inside in
    let me : Rank g.row.H.Denot = record { layout = i.layout; scheme = i.scheme; here = i.here; most = i.limits.letters; contents = i.handler; sent_count = i.sent.count; run_count = i.ran; held = i.held.queues; waiting = i.waiting; controls = map letter_of_control i.controls.items; stopped = i.stopped; heard = g.T.Tap.heard i.tap } in
    let now : Rank g.row.H.Denot = record me { sent_count = c.hold.new.sent.count; held = c.hold.new.held.queues } in
    let letter : ℕ → List ℕ → Letter = λ here body. record { to = c.args.to; from = here; tag = c.args.tag; body = body } in
    let P : Rank g.row.H.Denot → List ℕ → Type 0 = λ m body. HasSent m now (letter m.here body) in
    ok_both c.hold.result
    (λ gains counted. subst (λ m. P m c.args.body) c.self.view_is (subst (P me) c.as_slice.ensures.value (has_sent me c.hold.new.held.queues c.hold.new.sent.count (letter i.here c.as_slice.result.now) gains (ap (λ n. n.count) counted))))
    c.hold.ensures.held c.hold.ensures.counted

pub returns-clause-agrees : goal.returns-clause-agrees
returns-clause-agrees g c = λ log agrees.
    let i = c.self.inside in
    let me : Rank g.row.H.Denot = record { layout = i.layout; scheme = i.scheme; here = i.here; most = i.limits.letters; contents = i.handler; sent_count = i.sent.count; run_count = i.ran; held = i.held.queues; waiting = i.waiting; controls = map letter_of_control i.controls.items; stopped = i.stopped; heard = g.T.Tap.heard i.tap } in
    let is : me ≡ c.args.self.now = c.self.view_is in
    let h : Agrees g.H.Handler.apply g.H.Handler.start me log = subst (λ m. Agrees g.H.Handler.apply g.H.Handler.start m log) (sym is) agrees in
    let l : Letter = record { to = c.args.to; from = i.here; tag = c.args.tag; body = c.as_slice.result.now } in
    either_of c.hold.result _ _ _
    (λ gains counted. agrees_sent g.H.Handler.apply g.H.Handler.start me log h c.hold.new.held.queues c.hold.new.sent.count l refl (lt-ltb _ _ c.requires.data) gains (ap (λ n. n.count) counted))
    (λ same counted. agrees_unchanged g.H.Handler.apply g.H.Handler.start me log h c.hold.new.held.queues c.hold.new.sent.count same (ap (λ n. n.count) counted))
    c.hold.ensures.held c.hold.ensures.counted c.hold.ensures.not_held c.hold.ensures.not_counted
