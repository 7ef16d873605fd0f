-- The letters of a queue: of a letter more, of a batch less, and of closed batches.
use Rattle.std.proofs.Common.{◌≡◌, Bool, true, false, cond, ℕ, zero, suc, ◌<◌, List, [], ◌∷◌, ◌++◌, length, refl, sym, ap, ◌∙◌, append_assoc, append-nil, arith}
use Rattle.std.specs.List.{AllByRecursion, flat_map}
use Rattle.std.proofs.lemmas.Grind.{flat_map-append}
use Rattle.msg_codec.specs.declared.letter.Letter.{Letter}
use Rattle.list_facts.proofs.Elements.{all_append}
use Rattle.send_buffers.specs.Buffers.{Buffered, IsBatchFor, IsQueueFor, IsRouted, Queue, added, closed_up, closed_with, empty_queue, given_back, letters_in, may_join, queue_at, queued}

abbrev pub joined : List (List Letter) → List Letter
joined batches = flat_map (λ (batch : List Letter). batch) batches

pub joined-last : (batches : List (List Letter)) (batch : List Letter) → joined (batches ++ batch ∷ []) ≡ joined batches ++ batch
joined-last batches batch = flat_map-append (λ (b : List Letter). b) batches (batch ∷ []) ∙ ap (λ xs. joined batches ++ xs) (append-nil batch)

-- an added letter is the last
pub letters-added : (limit : ℕ) (queue : Queue) (l : Letter) → letters_in (added limit queue l) ≡ letters_in queue ++ l ∷ []
letters-added limit queue l = by (may_join limit queue.gathered l)
  where
    by : (b : Bool) → letters_in (cond b (record { closed = queue.closed; gathered = queue.gathered ++ l ∷ [] }) (record { closed = queue.closed ++ queue.gathered ∷ []; gathered = l ∷ [] })) ≡ letters_in queue ++ l ∷ []
    by true = sym (append_assoc (joined queue.closed) queue.gathered (l ∷ []))
    by false = ap (λ xs. xs ++ l ∷ []) (joined-last queue.closed queue.gathered)

-- a batch that is the oldest is the first
pub letters-given_back : (queue : Queue) (batch : List Letter) → letters_in (given_back queue batch) ≡ batch ++ letters_in queue
letters-given_back queue batch = append_assoc batch (joined queue.closed) queue.gathered

letters-closed_with : (closed : List (List Letter)) (letters : List Letter) → letters_in (closed_with closed letters) ≡ joined closed ++ letters
letters-closed_with closed [] = refl
letters-closed_with closed (first ∷ others) = append-nil _ ∙ joined-last closed (first ∷ others)

-- closing a batch changes no letters
pub letters-closed_up : (queue : Queue) → letters_in (closed_up queue) ≡ letters_in queue
letters-closed_up queue = letters-closed_with queue.closed queue.gathered

-- ---- their next hop

module _ (held : Buffered) (next : ℕ) where
  all_joined : (batches : List (List Letter)) → AllByRecursion (IsBatchFor held next) batches → AllByRecursion (IsRouted held next) (joined batches)
  all_joined [] each = tt
  all_joined (batch ∷ batches) each = all_append (IsRouted held next) batch (joined batches) each.0.each (all_joined batches each.1)

  -- each letter of a queue has its next hop
  pub all_letters : (queue : Queue) → IsQueueFor held next queue → AllByRecursion (IsRouted held next) (letters_in queue)
  all_letters queue is = all_append (IsRouted held next) (joined queue.closed) queue.gathered (all_joined queue.closed is.closed) is.gathered

  -- a queue without letters has no batch
  pub no_letters : (queue : Queue) → IsQueueFor held next queue → letters_in queue ≡ [] → queue ≡ empty_queue
  no_letters queue is none = by queue.closed queue.gathered is.closed none
    where
      by : (closed : List (List Letter)) (letters : List Letter) → AllByRecursion (IsBatchFor held next) closed → joined closed ++ letters ≡ [] →
          record { closed = closed; gathered = letters } ≡ empty_queue
      by [] [] each e = refl
      by [] (l ∷ letters) each e = absurd cc
      by ([] ∷ closed) letters each e = absurd (omega (arith, each.0.some))
      by ((l ∷ batch) ∷ closed) letters each e = absurd cc

-- ---- where nothing is held

pub all_empty : (queues : List Queue) → ((next : ℕ) → next < length queues → letters_in (queue_at queues next) ≡ []) → queued queues ≡ []
all_empty [] none = refl
all_empty (queue ∷ queues) none = ap (λ xs. xs ++ queued queues) (none zero (omega arith)) ∙ all_empty queues (λ next within. none (suc next) (omega (arith, within)))

-- of two lists that are joined to none, each is none
pub none_joined : {X : Type 0} (xs ys : List X) → xs ++ ys ≡ [] → (xs ≡ []) × (ys ≡ [])
none_joined [] ys none = (refl, none)
none_joined (x ∷ xs) ys none = absurd cc

pub each_empty : (queues : List Queue) → queued queues ≡ [] → (next : ℕ) → letters_in (queue_at queues next) ≡ []
each_empty [] none next = refl
each_empty (queue ∷ queues) none zero = (none_joined (letters_in queue) (queued queues) none).0
each_empty (queue ∷ queues) none (suc next) = each_empty queues (none_joined (letters_in queue) (queued queues) none).1 next
