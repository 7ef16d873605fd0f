use Rattle.std.proofs.Common.{◌<◌, length, ◌∙◌, arith, length-set}
use Rattle.send_buffers.proofs.Stored.EachChanged.{one_more_closed}
use Rattle.send_buffers.proofs.buffers.close_up.Goals as goal

pub loop-at-preserved : goal.loop-at-preserved
loop-at-preserved c =
    let within : c.loop-at.at < length c.loop-at.queues.items = omega (arith, c.loop-at-test.true, c.len-at-end.ensures, c.loop-at.invariant.all) in
    let all = length-set c.loop-at.queues.items c.loop-at.at c.close_up.new.self in
    record {
      first_closed = one_more_closed c.loop-at.queues.items c.args.queues.now.items c.loop-at.at c.index_mut.result.now c.close_up.new.self within c.index_mut.ensures.value c.loop-at.invariant.all c.loop-at.invariant.first_closed c.close_up.ensures;
      all = all ∙ c.loop-at.invariant.all;
    }
