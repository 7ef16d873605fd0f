-- The count of what a rank has sent is the sum over its destinations.
use Rattle.std.proofs.Common.{◌≡◌, ℕ, zero, suc, ◌+◌, ◌<◌, Bool, true, false, ◌&&◌, ◌==◌, nat_eq, eq-eqb, ne_eqb, cond, List, [], ◌∷◌, length, refl, sym, ◌∙◌, inl, inr, arith, length-append}
use Rattle.std.specs.List.{AllByRecursion}
use Rattle.std.proofs.lemmas.Bool.{cases_eq}
use Rattle.list_facts.specs.Sums.{sum_upto}
use Rattle.list_facts.proofs.Elements.{all_weaker}
use Rattle.list_facts.proofs.Sums.{sum_upto-add, sum_upto-same, sum_upto-zero}
use Rattle.msg_codec.specs.declared.letter.Letter.{Letter}
use Rattle.world_core.specs.declared.entry.Entry.{Entry}
use Rattle.world_core.specs.Log.{batches_put, letters_of, letters_put}
use Rattle.world_core.specs.Pairs.{is_data, of_pair, of_sender, pair_put}
use Rattle.world_core.specs.Rules.{IsHonest}
use Rattle.world_core.proofs.Deeds.Honest.{alone_honest}
use Rattle.world_core.proofs.Log.ByLink.{all_put}
use Rattle.world_core.proofs.Pairs.Numbers.{sent_number-is}
use Rattle.comm_rank.specs.Agrees.{Agrees}
use Rattle.comm_rank.specs.Fold.{Applies}
use Rattle.comm_rank.specs.Rank.{Rank, held_letters, local_of, sent_to}
use Rattle.comm_rank.proofs.Store.Queued.{all_of_each}
use Rattle.send_buffers.specs.Buffers.{AreRouted, Buffered, IsRouted, queue_at, queued}
use Rattle.send_buffers.proofs.Queued.Queues.{all_letters}

-- a letter to one of the ranks
abbrev pub GoesBelow : ℕ → Letter → Type 0
GoesBelow ranks l = l.to < ranks

abbrev one_at : ℕ → ℕ → ℕ
one_at to rank = cond (nat_eq to rank) 1 0

-- a letter counts at its destination, and nowhere else
once : (to ranks : ℕ) → to < ranks → sum_upto (one_at to) ranks ≡ 1
once to zero within = absurd (omega (arith, within))
once to (suc n) within = elim (cases_eq to n) [
  | inl is ↦
      let here : one_at to n ≡ 1 = (let e : nat_eq to n ≡ true = eq-eqb to n is in rw e refl) in
      let below : (rank : ℕ) → rank < n → one_at to rank ≡ 0 = λ rank lt. (let e : nat_eq to rank ≡ false = ne_eqb to rank (λ f. absurd (omega (arith, f, is, lt))) in rw e refl) in
      omega (arith, here, sum_upto-same (one_at to) (λ _. 0) n below, sum_upto-zero n)
  | inr other ↦
      let here : one_at to n ≡ 0 = (let e : nat_eq to n ≡ false = ne_eqb to n other in rw e refl) in
      omega (arith, here, once to n (omega (arith, within, other)))
]

one_more : (b t : Bool) (l : Letter) (xs : List Letter) → b ≡ true → length (cond (b && t) (l ∷ xs) xs) ≡ cond t 1 0 + length xs
one_more true true l xs e = omega arith
one_more true false l xs e = omega arith
one_more false t l xs e = absurd cc

none_more : (b t : Bool) (l : Letter) (xs : List Letter) → b ≡ false → length (cond (b && t) (l ∷ xs) xs) ≡ length xs
none_more true t l xs e = absurd cc
none_more false t l xs e = refl

-- the letters of a sender, by destination
pub by_destination : (here ranks : ℕ) (ls : List Letter) → AllByRecursion (GoesBelow ranks) ls → length (of_sender here ls) ≡ sum_upto (λ to. length (of_pair here to ls)) ranks
by_destination here ranks [] all = sym (sum_upto-zero ranks)
by_destination here ranks (l ∷ ls) all = by_test (is_data l && (l.from == here)) refl (by_destination here ranks ls all.1)
  where
    by_test : (b : Bool) → (is_data l && (l.from == here)) ≡ b → length (of_sender here ls) ≡ sum_upto (λ to. length (of_pair here to ls)) ranks →
        length (cond b (l ∷ of_sender here ls) (of_sender here ls)) ≡ sum_upto (λ to. length (of_pair here to (l ∷ ls))) ranks
    by_test true e rest =
        omega (
          arith,
          rest,
          sum_upto-same (λ to. length (of_pair here to (l ∷ ls))) (λ to. one_at l.to to + length (of_pair here to ls)) ranks (λ to lt. one_more (is_data l && (l.from == here)) (l.to == to) l (of_pair here to ls) e),
          sum_upto-add (one_at l.to) (λ to. length (of_pair here to ls)) ranks,
          once l.to ranks all.0,
        )
    by_test false e rest =
        rest ∙ sym (sum_upto-same (λ to. length (of_pair here to (l ∷ ls))) (λ to. length (of_pair here to ls)) ranks (λ to lt. none_more (is_data l && (l.from == here)) (l.to == to) l (of_pair here to ls) e))

pub held_below : (held : Buffered) → AreRouted held → AllByRecursion (GoesBelow held.layout.ranks) (queued held.queues)
held_below held routed = all_of_each (GoesBelow held.layout.ranks) held.queues (λ next lt.
    let within : next < held.layout.ranks = omega (arith, lt, routed.all) in
    all_weaker (IsRouted held next) (GoesBelow held.layout.ranks) _ (λ l is. is.destination) (all_letters held next (queue_at held.queues next) (routed.each next within)))

pub sum_of_sent : {C : Type 0} (apply : Applies C) (start : C → C) (me : Rank C) (log : List Entry) → AllByRecursion (GoesBelow me.layout.ranks) (held_letters me) → Agrees apply start me log → IsHonest (local_of me log) →
    me.sent_count ≡ sum_upto (λ to. length (sent_to me log to)) me.layout.ranks
sum_of_sent apply start me log held agrees honest =
    let n = me.layout.ranks in
    let alone = alone_honest (local_of me log) honest in
    let put : AllByRecursion (GoesBelow n) (letters_put log) = all_put (GoesBelow n) log (λ rank. all_weaker _ (GoesBelow n) (letters_of (batches_put rank log)) (λ l is. is.to_within) (alone.carry rank)) in
    omega (
      arith,
      agrees.sent_count,
      sent_number-is me.here (letters_put log),
      sent_number-is me.here (held_letters me),
      by_destination me.here n (letters_put log) put,
      by_destination me.here n (held_letters me) held,
      sum_upto-add (λ to. length (pair_put me.here to log)) (λ to. length (of_pair me.here to (held_letters me))) n,
      sum_upto-same (λ to. length (sent_to me log to)) (λ to. length (pair_put me.here to log) + length (of_pair me.here to (held_letters me))) n
          (λ to lt. length-append (pair_put me.here to log) (of_pair me.here to (held_letters me))),
    )
