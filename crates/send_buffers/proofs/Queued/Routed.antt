-- Each queue has letters whose next hop it is, in batches within the limit.
use Rattle.std.proofs.Common.{◌≡◌, ℕ, ◌<◌, Bool, true, false, cond, not, nat_lt, List, [], ◌∷◌, ◌++◌, length, map, replicate, set, refl, sym, ap, ◌∙◌, subst, inl, inr, arith, length-set}
use Rattle.std.specs.List.{AllByRecursion}
use Rattle.std.proofs.lemmas.Bool.{cases_eq, ltb-false}
use Rattle.std.proofs.lemmas.List.{get_or-map, get_or-replicate, get_or-set_other, get_or-set_same, length-map, length-replicate}
use Rattle.msg_codec.specs.declared.letter.Letter.{Letter}
use Rattle.msg_codec.specs.Spelling.{spelling}
use Rattle.ygm_route.specs.declared.scheme.Scheme.{Scheme}
use Rattle.ygm_route.specs.Layout.{Shape}
use Rattle.list_facts.proofs.Elements.{all_append}
use Rattle.send_buffers.specs.Buffers.{AreRouted, Buffered, IsBatchFor, IsQueueFor, IsRouted, MayShare, Queue, added, closed_up, closed_with, empty_queue, given_back, may_join, queue_at}
use Rattle.send_buffers.proofs.Queued.InPlace.{queue_later}

not_true : (b : Bool) → not b ≡ true → b ≡ false
not_true true h = absurd cc
not_true false h = refl

-- ---- one queue

module _ (held : Buffered) (next : ℕ) where
  pub nothing_held : IsQueueFor held next empty_queue
  nothing_held = record { closed = tt; share = inl (omega arith); gathered = tt }

  with_batch : (closed : List (List Letter)) (first : Letter) (others : List Letter) → AllByRecursion (IsBatchFor held next) closed → MayShare held.limit (first ∷ others) →
      AllByRecursion (IsRouted held next) (first ∷ others) → AllByRecursion (IsBatchFor held next) (closed ++ (first ∷ others) ∷ [])
  with_batch closed first others each share routed =
      all_append (IsBatchFor held next) closed ((first ∷ others) ∷ []) each (record { some = omega arith; share = share; each = routed }, tt)

  joined_or_next : (closed : List (List Letter)) (first : Letter) (others : List Letter) (l : Letter) (b : Bool) →
      not (nat_lt held.limit (length (spelling ((first ∷ others) ++ l ∷ [])))) ≡ b → IsQueueFor held next (record { closed = closed; gathered = first ∷ others }) → IsRouted held next l →
      IsQueueFor held next (cond b (record { closed = closed; gathered = (first ∷ others) ++ l ∷ [] }) (record { closed = closed ++ (first ∷ others) ∷ []; gathered = l ∷ [] }))
  joined_or_next closed first others l true fits is routed = record {
    closed = is.closed;
    share = inl (ltb-false held.limit (length (spelling ((first ∷ others) ++ l ∷ []))) (not_true _ fits));
    gathered = all_append (IsRouted held next) (first ∷ others) (l ∷ []) is.gathered (routed, tt);
  }
  joined_or_next closed first others l false full is routed = record {
    closed = with_batch closed first others is.closed is.share is.gathered;
    share = inr refl;
    gathered = (routed, tt);
  }

  after_add : (closed : List (List Letter)) (letters : List Letter) (l : Letter) → IsQueueFor held next (record { closed = closed; gathered = letters }) → IsRouted held next l →
      IsQueueFor held next (added held.limit (record { closed = closed; gathered = letters }) l)
  after_add closed [] l is routed = record { closed = is.closed; share = inr refl; gathered = (routed, tt) }
  after_add closed (first ∷ others) l is routed = joined_or_next closed first others l (may_join held.limit (first ∷ others) l) refl is routed

  pub one_added : (queue : Queue) (l : Letter) → IsQueueFor held next queue → IsRouted held next l → IsQueueFor held next (added held.limit queue l)
  one_added queue l is routed = after_add queue.closed queue.gathered l is routed

  after_close : (closed : List (List Letter)) (letters : List Letter) → IsQueueFor held next (record { closed = closed; gathered = letters }) → IsQueueFor held next (closed_with closed letters)
  after_close closed [] is = is
  after_close closed (first ∷ others) is = record { closed = with_batch closed first others is.closed is.share is.gathered; share = inl (omega arith); gathered = tt }

  pub one_closed : (queue : Queue) → IsQueueFor held next queue → IsQueueFor held next (closed_up queue)
  one_closed queue is = after_close queue.closed queue.gathered is

  pub one_back : (queue : Queue) (batch : List Letter) → IsQueueFor held next queue → IsBatchFor held next batch → IsQueueFor held next (given_back queue batch)
  one_back queue batch is routed = record { closed = (routed, is.closed); share = is.share; gathered = is.gathered }

  pub one_out : (queue : Queue) (batch : List Letter) → IsQueueFor held next (given_back queue batch) → IsQueueFor held next queue
  one_out queue batch is = record { closed = is.closed.1; share = is.share; gathered = is.gathered }

  pub oldest : (queue : Queue) (batch : List Letter) → IsQueueFor held next (given_back queue batch) → IsBatchFor held next batch
  oldest queue batch is = is.closed.0

-- ---- all queues

-- one queue changed
pub one_changed : (held : Buffered) (queues : List Queue) (room : List ℕ) (next : ℕ) (now : Queue) → AreRouted held → next < held.layout.ranks → IsQueueFor held next now →
    queues ≡ set held.queues next now → AreRouted (record held { queues = queues; room = room })
one_changed held queues room next now routed within is changed = record {
  here = routed.here;
  all = ap length changed ∙ length-set held.queues next now ∙ routed.all;
  each = λ other lt. queue_later held queues room other (queue_at queues other) (elim (cases_eq other next) [
    | inl same ↦
        let read : queue_at queues next ≡ now = ap (λ qs. queue_at qs next) changed ∙ get_or-set_same held.queues next now empty_queue (omega (arith, routed.all, within)) in
        let P : ℕ → Type 0 = λ k. IsQueueFor held k (queue_at queues k) in
        subst P (sym same) (subst (IsQueueFor held next) (sym read) is)
    | inr differs ↦
        let read : queue_at queues other ≡ queue_at held.queues other = ap (λ qs. queue_at qs other) changed ∙ get_or-set_other held.queues next other now empty_queue differs in
        subst (IsQueueFor held other) (sym read) (routed.each other lt)
  ]);
}

-- all queues are unchanged
pub none_changed : (held : Buffered) (queues : List Queue) (room : List ℕ) → AreRouted held → queues ≡ held.queues → AreRouted (record held { queues = queues; room = room })
none_changed held queues room routed same = record {
  here = routed.here;
  all = ap length same ∙ routed.all;
  each = λ other lt.
      let read : queue_at queues other ≡ queue_at held.queues other = ap (λ qs. queue_at qs other) same in
      queue_later held queues room other (queue_at queues other) (subst (IsQueueFor held other) (sym read) (routed.each other lt));
}

-- each batch was closed
pub all_closed : (held : Buffered) (queues : List Queue) (room : List ℕ) → AreRouted held → queues ≡ map closed_up held.queues → AreRouted (record held { queues = queues; room = room })
all_closed held queues room routed closed = record {
  here = routed.here;
  all = ap length closed ∙ length-map held.queues closed_up ∙ routed.all;
  each = λ other lt.
      let read : queue_at queues other ≡ closed_up (queue_at held.queues other) =
      ap (λ qs. queue_at qs other) closed ∙ get_or-map closed_up held.queues other empty_queue empty_queue (omega (arith, routed.all, lt)) in
      queue_later held queues room other (queue_at queues other) (subst (IsQueueFor held other) (sym read) (one_closed held other _ (routed.each other lt)));
}

pub all_empty : (layout : Shape) (scheme : Scheme) (here limit : ℕ) (queues : List Queue) (room : List ℕ) → here < layout.ranks → queues ≡ replicate layout.ranks empty_queue →
    AreRouted (record { layout = layout; scheme = scheme; here = here; limit = limit; queues = queues; room = room })
all_empty layout scheme here limit queues room within none = record {
  here = within;
  all = ap length none ∙ length-replicate layout.ranks empty_queue;
  each = λ next lt.
      let held : Buffered = record { layout = layout; scheme = scheme; here = here; limit = limit; queues = queues; room = room } in
      let read : queue_at queues next ≡ empty_queue = ap (λ qs. queue_at qs next) none ∙ get_or-replicate layout.ranks next empty_queue empty_queue lt in
      subst (IsQueueFor held next) (sym read) (nothing_held held next);
}
