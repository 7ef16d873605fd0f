use Rattle.std.proofs.Common.{map, ◌≡◌, List, refl, sym, ap, ◌∙◌, subst}
use Rattle.msg_codec.specs.Control.{letter_of_control}
use Rattle.send_buffers.specs.Buffers.{Buffered, Queue, closed_up, queue_at, queued}
use Rattle.send_buffers.proofs.Queued.Flushed.{queued-closed_up, closed_up-open}
use Rattle.comm_rank.specs.Agrees.{Agrees}
use Rattle.comm_rank.specs.Rank.{HasFlushed, Rank}
use Rattle.comm_rank.specs.Held.{AreData}
use Rattle.comm_rank.proofs.Agrees.AfterSend.{agrees_rebatched}
use Rattle.comm_rank.proofs.Store.SameStore.{still_of}
use Rattle.comm_rank.proofs.comm.Comm.flush.Goals as goal

pub returns-clause-closed : goal.returns-clause-closed
returns-clause-closed g c =
    let i = c.self.inside in
    let me : Rank g.row.H.Denot = record { layout = i.layout; scheme = i.scheme; here = i.here; most = i.limits.letters; contents = i.handler; sent_count = i.sent.count; run_count = i.ran; held = i.held.queues; waiting = i.waiting; controls = map letter_of_control i.controls.items; stopped = i.stopped; heard = g.T.Tap.heard i.tap } in
    let held : List Queue = c.flush_all.new.self.queues in
    let is : held ≡ map closed_up i.held.queues = c.flush_all.ensures.closed in
    subst (λ (m : Rank g.row.H.Denot). HasFlushed m (record me { held = held })) c.self.view_is (record {
      closed = is;
      none_open = λ next. ap (λ queues. (queue_at queues next).gathered) is ∙ closed_up-open i.held.queues next;
      same_letters = ap queued is ∙ queued-closed_up i.held.queues;
      rank = refl;
    })

pub returns-clause-agrees : goal.returns-clause-agrees
returns-clause-agrees g c = λ log agrees.
    let i = c.self.inside in
    let me : Rank g.row.H.Denot = record { layout = i.layout; scheme = i.scheme; here = i.here; most = i.limits.letters; contents = i.handler; sent_count = i.sent.count; run_count = i.ran; held = i.held.queues; waiting = i.waiting; controls = map letter_of_control i.controls.items; stopped = i.stopped; heard = g.T.Tap.heard i.tap } in
    let held : List Queue = c.flush_all.new.self.queues in
    agrees_rebatched g.H.Handler.apply g.H.Handler.start me log held (ap queued c.flush_all.ensures.closed ∙ queued-closed_up i.held.queues)
    (subst (λ (m : Rank g.row.H.Denot). Agrees g.H.Handler.apply g.H.Handler.start m log) (sym c.self.view_is) agrees)

pub invariant_of-self : goal.invariant_of-self
invariant_of-self g c =
    let i = c.self.inside in
    let held : Buffered = c.flush_all.new.self in
    let same : queued held.queues ≡ queued i.held.queues = ap queued c.flush_all.ensures.closed ∙ queued-closed_up i.held.queues in (
      c.self.invariant.0,
      c.self.invariant.1,
      c.self.invariant.2,
      c.self.invariant.3,
      still_of i.layout i.scheme i.here i.held held (record { place = c.flush_all.ensures.place; data_alone = subst AreData (sym same) }) c.self.invariant.4,
    )
