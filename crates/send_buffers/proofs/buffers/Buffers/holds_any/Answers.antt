use Rattle.send_buffers.proofs.Stored.OneChanged.{nothing_there}
use Rattle.send_buffers.proofs.buffers.Buffers.holds_any.Goals as goal

pub returns-clause-some : goal.returns-clause-some
returns-clause-some c = λ none. c.holds_any.ensures.some
    (nothing_there c.self.inside.layout c.self.inside.scheme c.self.inside.here c.self.inside.limit c.self.inside.queues.items c.args.self.now c.self.view_is c.args.to c.requires c.self.invariant
    c.index.result.now c.index.ensures none)
