use Rattle.std.proofs.Common.{map, rules}
use Rattle.send_buffers.specs.Buffers.{queued}
use Rattle.comm_rank.specs.Fold.{letter_by}
use Rattle.comm_rank.proofs.Gains.{count_then, gains_next, gains_none}
use Rattle.comm_rank.proofs.Store.SameStore.{same_store_none, same_store_then}
use Rattle.comm_rank.proofs.turn.send_out.Goals as goal

pub loop-k-init : goal.loop-k-init
loop-k-init c = record { held = gains_none (queued c.args.held.now.queues); counted = search rules; same = same_store_none c.args.held.now }

pub loop-k-preserved : goal.loop-k-preserved
loop-k-preserved c = record {
  held = gains_next (queued c.args.held.now.queues) (queued c.loop-k.held.queues) (queued c.hold.new.held.queues) (map (letter_by c.args.here) c.args.out.now.letters) c.loop-k.k _ c.loop-k.invariant.held c.letter.ensures.letter c.in_ok-hold.ensures.held;
  counted = count_then c.args.sent.now c.loop-k.sent c.hold.new.sent c.loop-k.k 1 c.loop-k.invariant.counted c.in_ok-hold.ensures.counted;
  same = same_store_then c.args.held.now c.loop-k.held c.hold.new.held c.loop-k.invariant.same c.hold.ensures.same;
}
