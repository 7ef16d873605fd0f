-- What calls do to the buffers of a rank.
use Rattle.std.specs.Prelude.{◌≡◌, ℕ, ◌≤◌, List, replicate, slice_index_or, slice_set}
use Rattle.msg_codec.specs.declared.letter.Letter.{Letter}
use Rattle.ygm_route.specs.declared.scheme.Scheme.{Scheme}
use Rattle.ygm_route.specs.Layout.{Shape}
use Rattle.send_buffers.specs.Buffers.{Buffered, IsBatchFor, Queue, added, empty_queue, given_back, hop_to, queue_at}

-- buffers that hold nothing
abbrev pub empty_buffers : Shape → Scheme → ℕ → ℕ → List ℕ → Buffered
empty_buffers layout scheme here limit room = record {
  layout = layout;
  scheme = scheme;
  here = here;
  limit = limit;
  queues = replicate layout.ranks empty_queue;
  room = room;
}

-- only what is held changed, and the memory for more
abbrev pub InPlace : Buffered → Buffered → Type 0
InPlace old new = new ≡ record old { queues = new.queues; room = new.room }

-- the queues after a letter was added to that of its next hop
abbrev pub with_letter : Buffered → Letter → List Queue
with_letter old l = slice_set old.queues (hop_to old l.to) (added old.limit (queue_at old.queues (hop_to old l.to)) l)

-- the queues after a batch became the oldest closed one for its next hop again
abbrev pub with_batch_back : List Queue → ℕ → List Letter → List Queue
with_batch_back queues to batch = slice_set queues to (given_back (queue_at queues to) batch)

-- The oldest closed batch for this next hop was handed out: with it the queue is that of before, and the other queues are
-- unchanged. There is memory for it to step back.
pub record HandsOut (old new : Buffered) (to : ℕ) (batch : List Letter) : Type 0 where
  pub oldest : queue_at old.queues to ≡ given_back (queue_at new.queues to) batch
  pub others : new.queues ≡ slice_set old.queues to (queue_at new.queues to)
  pub routed : IsBatchFor old to batch
  pub room : 1 ≤ slice_index_or new.room to 0
