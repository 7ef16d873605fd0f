-- Stored queues, of which one changes.
use Rattle.std.proofs.Common.{◌≡◌, ℕ, ◌<◌, ◌≤◌, Option, Some, None, IsNone, Result, OnOk, OnErr, List, [], length, get_or, set, refl, sym, ap, ◌∙◌, subst, arith}
use Rattle.std.specs.Option.{IfSome}
use Rattle.std.proofs.lemmas.List.{length-map, map-set}
use Rattle.msg_codec.specs.declared.letter.Letter.{Letter}
use Rattle.ygm_route.specs.declared.scheme.Scheme.{Scheme}
use Rattle.ygm_route.specs.Layout.{Shape}
use Rattle.list_facts.proofs.Fields.{field_now, field_read, field_same, field_written}
use Rattle.list_facts.proofs.Outcomes.{either}
use Rattle.std.proofs.lemmas.Result.{on_err_weaker, on_ok_weaker}
use Rattle.send_buffers.specs.Buffers.{AreRouted, Buffered, IsBatchFor, IsQueueFor, IsRouted, Queue, added, empty_queue, given_back, hop_to, letters_in, queue_at}
use Rattle.send_buffers.specs.Calls.{HandsOut, with_batch_back, with_letter}
use Rattle.send_buffers.specs.Stored.{Stored, buffered, held_in, room_in}
use Rattle.send_buffers.proofs.Queued.Queues.{no_letters}
use Rattle.send_buffers.proofs.Queued.Routed.{oldest, one_added, one_back, one_changed, one_out}

-- the queues as they are stored, and the buffers that a caller sees
module _ (layout : Shape) (scheme : Scheme) (here limit : ℕ) (stored : List Stored) (old : Buffered) (same : buffered layout scheme here limit stored ≡ old) (next : ℕ) (within : next < old.layout.ranks) (routed : AreRouted (buffered layout scheme here limit stored))
    (was : Stored) (at : was ≡ get_or stored next was) where
  abbrev held : Buffered
  held = buffered layout scheme here limit stored

  abbrev changed : Stored → Buffered
  changed now = buffered layout scheme here limit (set stored next now)

  inside : next < layout.ranks
  inside = omega (arith, within, ap (λ (b : Buffered). b.layout.ranks) same)

  pub place : next < length stored
  place = omega (arith, inside, routed.all, length-map stored (λ (one : Stored). one.held))

  queues : held_in stored ≡ old.queues
  queues = ap (λ (b : Buffered). b.queues) same

  -- it was the queue at its place
  pub read : was.held ≡ queue_at old.queues next
  read = field_read (λ (one : Stored). one.held) stored old.queues next was empty_queue queues (omega (arith, place, ap length queues, length-map stored (λ (one : Stored). one.held))) at

  own : IsQueueFor held next was.held
  own = subst (IsQueueFor held next) (sym (read ∙ ap (λ qs. queue_at qs next) (sym queues))) (routed.each next inside)

  -- where no letter is held, no batch is
  pub nothing_there : letters_in (queue_at old.queues next) ≡ [] → was.held ≡ empty_queue
  nothing_there none = no_letters held next was.held own (ap letters_in read ∙ none)

  pub written : (now : Stored) (queue : Queue) → now.held ≡ queue → held_in (set stored next now) ≡ set old.queues next queue
  written now queue is = field_written (λ (one : Stored). one.held) stored old.queues next now queue queues is

  pub kept : (now : Stored) → now.held ≡ was.held → held_in (set stored next now) ≡ old.queues
  kept now is = field_same (λ (one : Stored). one.held) stored old.queues next was now queues (omega (arith, place, ap length queues, length-map stored (λ (one : Stored). one.held))) at is

  pub stays_routed : (now : Stored) → IsQueueFor held next now.held → AreRouted (changed now)
  stays_routed now is = one_changed held (held_in (set stored next now)) (room_in (set stored next now)) next now.held routed inside is (map-set (λ (one : Stored). one.held) stored next now)

  -- ---- a batch less

  pub after_out : (now : Stored) (result : Option (List Letter)) → (IsNone result → now ≡ was) → IfSome result (λ batch. was.held ≡ given_back now.held batch) → AreRouted (changed now)
  after_out now None none some = stays_routed now (subst (λ (one : Stored). IsQueueFor held next one.held) (sym (none refl)) own)
  after_out now (Some batch) none some = stays_routed now (one_out held next now.held batch (subst (IsQueueFor held next) some own))

  pub hands_out : (now : Stored) (result : Option (List Letter)) → IfSome result (λ batch. was.held ≡ given_back now.held batch) → IfSome result (λ _. 1 ≤ now.room) →
      IfSome result (λ batch. HandsOut old (changed now) next batch)
  hands_out now None some room = tt
  hands_out now (Some batch) some room =
      let there : queue_at (held_in (set stored next now)) next ≡ now.held = field_now (λ (one : Stored). one.held) stored next now empty_queue place in
      let out : queue_at old.queues next ≡ given_back now.held batch = sym read ∙ some in
      record {
        oldest = out ∙ ap (λ q. given_back q batch) (sym there);
        others = written now (queue_at (held_in (set stored next now)) next) (sym there);
        routed = subst (λ (b : Buffered). IsBatchFor b next batch) same (oldest held next now.held batch (subst (IsQueueFor held next) some own));
        room = omega (arith, room, field_now (λ (one : Stored). one.room) stored next now 0 place);
      }

  -- ---- a batch that steps back

  pub back : (now : Stored) (batch : List Letter) → now.held ≡ given_back was.held batch → held_in (set stored next now) ≡ with_batch_back old.queues next batch
  back now batch is = written now _ (is ∙ ap (λ q. given_back q batch) read)

  pub after_back : (now : Stored) (batch : List Letter) → now.held ≡ given_back was.held batch → IsBatchFor old next batch → AreRouted (changed now)
  after_back now batch is batch_for =
      stays_routed now (subst (IsQueueFor held next) (sym is) (one_back held next was.held batch own (subst (λ (b : Buffered). IsBatchFor b next batch) (sym same) batch_for)))

  -- ---- a letter more

  module _ {T E : Type 0} (l : Letter) (hop : next ≡ hop_to old l.to) (now : Stored) (result : Result T E) (ok : OnOk result (now.held ≡ added limit was.held l)) (err : OnErr result (now.held ≡ was.held)) where
    pub with_one : OnOk result (held_in (set stored next now) ≡ with_letter old l)
    with_one = on_ok_weaker result (λ h.
        written now _ (h ∙ ap (λ (b : Buffered). added b.limit was.held l) same ∙ ap (λ q. added old.limit q l) read)
        ∙ ap (λ k. set old.queues k (added old.limit (queue_at old.queues k) l)) hop) ok

    pub without : OnErr result (held_in (set stored next now) ≡ old.queues)
    without = on_err_weaker result (kept now) err

    pub after_add : l.to < old.layout.ranks → l.from < old.layout.ranks → AreRouted (changed now)
    after_add destination sender =
        let ranks : layout.ranks ≡ old.layout.ranks = ap (λ (b : Buffered). b.layout.ranks) same in
        let is : IsRouted held next l = record {
          destination = omega (arith, destination, ranks);
          sender = omega (arith, sender, ranks);
          next_hop = ap (λ (b : Buffered). hop_to b l.to) same ∙ sym hop;
        } in
        either result _ _ _
        (λ h. stays_routed now (subst (IsQueueFor held next) (sym h) (one_added held next was.held l own is)))
        (λ h. stays_routed now (subst (IsQueueFor held next) (sym h) own))
        ok err
