-- The letters that a rank holds until its links take them, by their next hop.
use Rattle.std.specs.Prelude.{◌≡◌, ◌⊎◌, ℕ, ◌<◌, ◌≤◌, Bool, true, not, nat_lt, List, [], ◌∷◌, ◌++◌, length, slice_index_or, if◌then◌else◌}
use Rattle.std.specs.List.{AllByRecursion, flat_map}
use Rattle.msg_codec.specs.declared.letter.Letter.{Letter}
use Rattle.msg_codec.specs.Spelling.{spelling}
use Rattle.ygm_route.specs.declared.scheme.Scheme.{Scheme}
use Rattle.ygm_route.specs.Hop.{hop}
use Rattle.ygm_route.specs.Layout.{Shape}

-- What is held for one next hop: the closed batches, the oldest first, and then the letters of the open one, which may
-- still gain letters.
pub record Queue : Type 0 where
  pub closed : List (List Letter)
  pub gathered : List Letter

abbrev pub empty_queue : Queue
empty_queue = record { closed = []; gathered = [] }

-- its letters, the oldest first
abbrev pub letters_in : Queue → List Letter
letters_in queue = flat_map (λ batch. batch) queue.closed ++ queue.gathered

-- what is held for this next hop
abbrev pub queue_at : List Queue → ℕ → Queue
queue_at queues next = slice_index_or queues next empty_queue

-- all letters that are held, next hop by next hop
abbrev pub queued : List Queue → List Letter
queued queues = flat_map letters_in queues

-- The buffers of a rank: its place in its world, how many bytes a batch may have, and by next hop what is held and for how
-- many more closed batches there is memory.
pub record Buffered : Type 0 where
  pub layout : Shape
  pub scheme : Scheme
  pub here : ℕ
  pub limit : ℕ
  pub queues : List Queue
  pub room : List ℕ

-- the next hop of a letter to this rank
abbrev pub hop_to : Buffered → ℕ → ℕ
hop_to buffered to = hop buffered.layout buffered.scheme buffered.here to

-- ---- which letters a batch holds

-- a letter between ranks of the world, whose next hop this is
pub record IsRouted (buffered : Buffered) (next : ℕ) (l : Letter) : Type 0 where
  pub destination : l.to < buffered.layout.ranks
  pub sender : l.from < buffered.layout.ranks
  pub next_hop : hop_to buffered l.to ≡ next

-- these letters have at most so many bytes in all, or are one alone
abbrev pub MayShare : ℕ → List Letter → Type 0
MayShare limit letters = (length (spelling letters) ≤ limit) ⊎ (length letters ≡ 1)

-- at least one letter, all for this next hop, and no more than may share a batch
pub record IsBatchFor (buffered : Buffered) (next : ℕ) (letters : List Letter) : Type 0 where
  pub some : 0 < length letters
  pub share : MayShare buffered.limit letters
  pub each : AllByRecursion (IsRouted buffered next) letters

-- What a queue holds: batches for its next hop, and letters that may share one.
pub record IsQueueFor (buffered : Buffered) (next : ℕ) (queue : Queue) : Type 0 where
  pub closed : AllByRecursion (IsBatchFor buffered next) queue.closed
  pub share : MayShare buffered.limit queue.gathered
  pub gathered : AllByRecursion (IsRouted buffered next) queue.gathered

-- there is a queue for each rank, with letters whose next hop it is
pub record AreRouted (buffered : Buffered) : Type 0 where
  pub here : buffered.here < buffered.layout.ranks
  pub all : length buffered.queues ≡ buffered.layout.ranks
  pub each : (next : ℕ) → next < buffered.layout.ranks → IsQueueFor buffered next (queue_at buffered.queues next)

-- ---- what calls do to a queue

-- whether the open batch may gain the letter: it has no letter yet, or stays within the limit
abbrev pub may_join : ℕ → List Letter → Letter → Bool
may_join limit [] l = true
may_join limit (first ∷ others) l = not (nat_lt limit (length (spelling ((first ∷ others) ++ l ∷ []))))

-- A letter was added: it joins the open batch where it may. Otherwise that batch is closed, and the letter is the first of
-- the next one.
abbrev pub added : ℕ → Queue → Letter → Queue
added limit queue l =
    if may_join limit queue.gathered l
    then record { closed = queue.closed; gathered = queue.gathered ++ l ∷ [] }
    else record { closed = queue.closed ++ queue.gathered ∷ []; gathered = l ∷ [] }

-- the open batch, if it has a letter, was closed
abbrev pub closed_with : List (List Letter) → List Letter → Queue
closed_with closed [] = record { closed = closed; gathered = [] }
closed_with closed (first ∷ others) = record { closed = closed ++ (first ∷ others) ∷ []; gathered = [] }

abbrev pub closed_up : Queue → Queue
closed_up queue = closed_with queue.closed queue.gathered

-- this batch is the oldest closed one again
abbrev pub given_back : Queue → List Letter → Queue
given_back queue batch = record queue { closed = batch ∷ queue.closed }
