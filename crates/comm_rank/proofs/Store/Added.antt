-- A letter that is added to the buffers of a rank.
use Rattle.std.proofs.Common.{◌≡◌, ◌<◌, true, false, not, ◌&&◌, nat_eq, List, [], ◌∷◌, length, refl, ap, arith}
use Rattle.std.specs.List.{filter}
use Rattle.std.proofs.lemmas.Bool.{not-false}
use Rattle.std.proofs.lemmas.List.{nil_from_length}
use Rattle.msg_codec.specs.declared.letter.Letter.{Letter}
use Rattle.ygm_route.specs.Layout.{AreRanks, IsLayout}
use Rattle.send_buffers.specs.Buffers.{AreRouted, Buffered, Queue, queued}
use Rattle.send_buffers.specs.Calls.{with_letter}
use Rattle.send_buffers.proofs.Queued.Counts.{added-count}
use Rattle.send_buffers.proofs.Queued.Order.{added-order}
use Rattle.world_core.specs.Pairs.{is_data, is_of_pair}
use Rattle.world_core.proofs.Pairs.Numbers.{sent_number-is}
use Rattle.world_core.proofs.Pairs.OfPair.{pair_of}
use Rattle.list_facts.proofs.Elements.{all_weaker}
use Rattle.list_facts.proofs.Filters.{filter_none, none_kept}
use Rattle.comm_rank.specs.Held.{AreData, Gains}

module _ (held : Buffered) (l : Letter) (queues : List Queue) (routed : AreRouted held) (laid_out : IsLayout held.layout) (within : l.to < held.layout.ranks) (is : queues ≡ with_letter held l) where
  ranks : AreRanks held.layout held.here l.to
  ranks = record { laid_out = laid_out; from_within = routed.here; to_within = within }

  pub gains_added : Gains (queued held.queues) (queued queues) (l ∷ [])
  gains_added = record {
    pairs = λ from to. added-order held to (is_of_pair from to) routed (λ x yes. (pair_of from to x yes).1) l queues ranks is;
    senders = λ from. omega (
      arith,
      added-count (λ x. is_data x && nat_eq x.from from) held l queues routed ranks is,
      sent_number-is from (queued queues),
      sent_number-is from (queued held.queues),
      sent_number-is from (l ∷ []),
    );
  }

  -- a data letter among data letters
  pub data_added : is_data l ≡ true → AreData (queued held.queues) → AreData (queued queues)
  data_added tag before =
      let none : (xs : List Letter) → AreData xs → length (filter (λ x. not (is_data x)) xs) ≡ 0 =
      λ xs all. ap length (filter_none (λ x. not (is_data x)) xs (all_weaker _ (λ x. not (is_data x) ≡ false) xs (λ x yes. rw yes refl) all)) in
      let count : length (filter (λ x. not (is_data x)) (queued queues)) ≡ 0 =
      omega (arith, added-count (λ x. not (is_data x)) held l queues routed ranks is, none (queued held.queues) before, none (l ∷ []) (tag, tt)) in
      all_weaker (λ x. not (is_data x) ≡ false) _ (queued queues) (λ x no. not-false (is_data x) no) (none_kept _ (queued queues) (nil_from_length _ count))
