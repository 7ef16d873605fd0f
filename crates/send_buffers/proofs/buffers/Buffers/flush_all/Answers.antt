use Rattle.send_buffers.specs.Stored.{buffered, held_in, room_in}
use Rattle.send_buffers.proofs.Queued.Routed.{all_closed}
use Rattle.send_buffers.proofs.buffers.Buffers.flush_all.Goals as goal

pub invariant_of-self : goal.invariant_of-self
invariant_of-self c =
    let now = c.close_up.new.queues.items in
    all_closed (buffered c.self.inside.layout c.self.inside.scheme c.self.inside.here c.self.inside.limit c.self.inside.queues.items) (held_in now) (room_in now) c.self.invariant c.close_up.ensures
