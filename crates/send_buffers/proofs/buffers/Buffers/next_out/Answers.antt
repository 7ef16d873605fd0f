use Rattle.send_buffers.proofs.Stored.OneChanged.{after_out, hands_out}
use Rattle.send_buffers.proofs.buffers.Buffers.next_out.Goals as goal

pub invariant_of-self : goal.invariant_of-self
invariant_of-self c =
    after_out c.self.inside.layout c.self.inside.scheme c.self.inside.here c.self.inside.limit c.self.inside.queues.items c.args.self.now c.self.view_is c.args.to c.requires c.self.invariant
    c.index_mut.result.now c.index_mut.ensures.value c.pop.new.self c.pop.result c.pop.ensures.unchanged c.pop.ensures.oldest

pub returns-clause-some : goal.returns-clause-some
returns-clause-some c =
    hands_out c.self.inside.layout c.self.inside.scheme c.self.inside.here c.self.inside.limit c.self.inside.queues.items c.args.self.now c.self.view_is c.args.to c.requires c.self.invariant
    c.index_mut.result.now c.index_mut.ensures.value c.pop.new.self c.pop.result c.pop.ensures.oldest c.pop.ensures.room
