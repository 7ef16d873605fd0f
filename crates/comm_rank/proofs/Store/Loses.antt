-- What is held loses the letters of a batch that is handed out.
use Rattle.std.proofs.Common.{ℕ, ◌&&◌, nat_eq, eqb-true, List, arith}
use Rattle.list_facts.proofs.Tests.{and_second}
use Rattle.msg_codec.specs.declared.letter.Letter.{Letter}
use Rattle.send_buffers.specs.Buffers.{AreRouted, Buffered, queued}
use Rattle.send_buffers.specs.Calls.{HandsOut}
use Rattle.send_buffers.specs.Laws.{PassesOnlyTo}
use Rattle.send_buffers.proofs.Queued.Counts.{out-count}
use Rattle.send_buffers.proofs.Queued.Order.{out-order}
use Rattle.world_core.specs.Pairs.{is_data, is_of_pair}
use Rattle.world_core.proofs.Pairs.Numbers.{sent_number-is}
use Rattle.comm_rank.specs.Store.{Loses}

pair_passes : (from to : ℕ) → PassesOnlyTo to (is_of_pair from to)
pair_passes from to l passes = eqb-true l.to to (and_second (is_data l && nat_eq l.from from) (nat_eq l.to to) passes)

pub loses_batch : (old new : Buffered) (next : ℕ) (batch : List Letter) → AreRouted old → HandsOut old new next batch → Loses (queued old.queues) (queued new.queues) batch
loses_batch old new next batch routed out = record {
  pairs = λ from to. out-order old new to (is_of_pair from to) routed (pair_passes from to) next batch out;
  senders = λ from. omega (
    arith,
    out-count (λ l. is_data l && nat_eq l.from from) old new next batch out,
    sent_number-is from batch,
    sent_number-is from (queued old.queues),
    sent_number-is from (queued new.queues),
  );
}
