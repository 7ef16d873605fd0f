use Rattle.std.proofs.Common.{[], sym, subst}
use Rattle.comm_rank.specs.Agrees.{Agrees}
use Rattle.comm_rank.specs.Rank.{Rank}
use Rattle.comm_rank.proofs.Agrees.AfterControl.{agrees_popped}
use Rattle.comm_rank.proofs.comm.Comm.next_control.Goals as goal

pub returns-clause-agrees : goal.returns-clause-agrees
returns-clause-agrees g c = λ log agrees.
    let i = c.self.inside in
    let me : Rank g.row.H.Denot = record { layout = i.layout; scheme = i.scheme; here = i.here; most = i.limits.letters; contents = i.handler; sent_count = i.sent.count; run_count = i.ran; held = i.held.queues; waiting = i.waiting; controls = []; stopped = i.stopped; heard = g.T.Tap.heard i.tap } in
    agrees_popped g.H.Handler.apply g.H.Handler.start me log c.pop_front.result i.controls.items c.pop_front.new.self.items c.pop_front.ensures.items
    (subst (λ m. Agrees g.H.Handler.apply g.H.Handler.start m log) (sym c.self.view_is) agrees)
