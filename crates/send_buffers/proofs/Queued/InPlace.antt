-- What holds of a batch and a queue, after the queues changed.
use Rattle.std.proofs.Common.{ℕ, List, sym, subst}
use Rattle.msg_codec.specs.declared.letter.Letter.{Letter}
use Rattle.list_facts.proofs.Elements.{all_weaker}
use Rattle.send_buffers.specs.Buffers.{Buffered, IsBatchFor, IsQueueFor, IsRouted, Queue}
use Rattle.send_buffers.specs.Calls.{InPlace}

module _ (held : Buffered) (queues : List Queue) (room : List ℕ) (next : ℕ) where
  abbrev later : Buffered
  later = record held { queues = queues; room = room }

  routed_later : (l : Letter) → IsRouted held next l → IsRouted later next l
  routed_later l is = record { destination = is.destination; sender = is.sender; next_hop = is.next_hop }

  batch_later : (batch : List Letter) → IsBatchFor held next batch → IsBatchFor later next batch
  batch_later batch is = record { some = is.some; share = is.share; each = all_weaker (IsRouted held next) (IsRouted later next) batch routed_later is.each }

  pub queue_later : (queue : Queue) → IsQueueFor held next queue → IsQueueFor later next queue
  queue_later queue is = record {
    closed = all_weaker (IsBatchFor held next) (IsBatchFor later next) queue.closed batch_later is.closed;
    share = is.share;
    gathered = all_weaker (IsRouted held next) (IsRouted later next) queue.gathered routed_later is.gathered;
  }

-- a batch for a next hop stays one
pub still_batch : (old new : Buffered) (next : ℕ) (batch : List Letter) → InPlace old new → IsBatchFor old next batch → IsBatchFor new next batch
still_batch old new next batch place is = subst (λ (b : Buffered). IsBatchFor b next batch) (sym place) (batch_later old new.queues new.room next batch is)
