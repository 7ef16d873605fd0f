use Rattle.send_buffers.proofs.Stored.OneChanged.{after_back, back}
use Rattle.send_buffers.proofs.buffers.Buffers.step_back.Goals as goal

pub invariant_of-self : goal.invariant_of-self
invariant_of-self c =
    after_back c.self.inside.layout c.self.inside.scheme c.self.inside.here c.self.inside.limit c.self.inside.queues.items c.args.self.now c.self.view_is c.args.to c.requires.within c.self.invariant
    c.index_mut.result.now c.index_mut.ensures.value c.give_back.new.self c.args.batch c.give_back.ensures c.requires.routed

pub returns-clause-back : goal.returns-clause-back
returns-clause-back c =
    back c.self.inside.layout c.self.inside.scheme c.self.inside.here c.self.inside.limit c.self.inside.queues.items c.args.self.now c.self.view_is c.args.to c.requires.within c.self.invariant
    c.index_mut.result.now c.index_mut.ensures.value c.give_back.new.self c.args.batch c.give_back.ensures
