-- A barrier that its rank is inside stays in agreement with its log, as it puts a Count and as it puts the next Total.
use Rattle.std.proofs.Common.{◌≡◌, ℕ, ◌+◌, ◌<◌, ◌≤◌, Bool, true, false, cond, ◌&&◌, nat_eq, nat_lt, eqb-true, eq-eqb, inl, inr, [], ◌∷◌, refl, sym, ap, ◌∙◌, arith}
use Rattle.std.proofs.lemmas.Bool.{false≢true}
use Rattle.std.proofs.lemmas.Bool.Decides.{nat_tests}
use Rattle.msg_codec.specs.Control.{is_count, is_total}
use Rattle.msg_codec.specs.declared.letter.Letter.{Letter}
use Rattle.world_core.specs.Local.{Local, having_put}
use Rattle.term_barrier.specs.Barriers.{BarrierAgrees, BarrierState, InRange, IsNextTotal, totals_put, with_count_put, with_total_put}
use Rattle.term_barrier.proofs.Puts.Log.{control_letters-put, counts-count, counts-total, totals-count, totals-total}

-- ---- a Count

module _ (barrier : BarrierState) (me : Local) (l : Letter) (inside : barrier.inside ≡ true) where
  pub agrees_count : is_count l ≡ true → BarrierAgrees barrier [] me → BarrierAgrees (with_count_put barrier) [] (having_put me 0 (l ∷ []))
  agrees_count count agrees = record {
    layout = agrees.layout;
    here = agrees.here;
    handed = agrees.handed;
    in_order = agrees.in_order ∙ sym (control_letters-put me.log 0 (l ∷ []));
    its_rounds = record {
      counts_are = ap (λ n. n + 1) agrees.its_rounds.counts_are ∙ sym (counts-count me.log 0 l count);
      totals_are = λ to within. agrees.its_rounds.totals_are to within ∙ sym (totals-count to 0 me.log l count);
      known_are = agrees.its_rounds.known_are;
      first_is = agrees.its_rounds.first_is;
      left_are = agrees.its_rounds.left_are;
      last_is = agrees.its_rounds.last_is;
      heard_are = agrees.its_rounds.heard_are;
    };
    outside = λ outside. absurd (false≢true (sym outside ∙ inside));
  }

-- ---- a Total

-- how many Totals were put to a rank, where this many rounds are over and this rank is next
abbrev put_of : ℕ → ℕ → ℕ → ℕ
put_of over next rank = over + cond (nat_lt 0 rank && nat_lt rank next) 1 0

-- one that goes to rank 0, which ends the round
put_last : (over next to rank : ℕ) → to ≡ 0 → rank < next → put_of (over + 1) 1 rank ≡ put_of over next rank + cond (nat_eq to rank) 1 0
put_last over next to rank first within = grind (arith, nat_tests)

-- and one that goes to another rank
put_next : (over next to rank : ℕ) → to ≡ next → 0 < next → put_of over (to + 1) rank ≡ put_of over next rank + cond (nat_eq to rank) 1 0
put_next over next to rank is some = grind (arith, nat_tests)

module _ (barrier : BarrierState) (me : Local) (l : Letter) (inside : barrier.inside ≡ true) (to : ℕ) (total : is_total l ≡ true) where
  -- where that is one more to this rank,
  with_totals : (over next : ℕ) →
      ((rank : ℕ) → rank < barrier.layout.ranks → put_of over next rank ≡ totals_put barrier rank + cond (nat_eq to rank) 1 0) →
      BarrierAgrees barrier [] me → BarrierAgrees (record barrier { over = over; next = next }) [] (having_put me to (l ∷ []))
  with_totals over next more agrees = record {
    layout = agrees.layout;
    here = agrees.here;
    handed = agrees.handed;
    in_order = agrees.in_order ∙ sym (control_letters-put me.log to (l ∷ []));
    its_rounds = record {
      counts_are = agrees.its_rounds.counts_are ∙ sym (counts-total me.log to l total);
      totals_are = λ rank within.
          more rank within
          ∙ ap (λ n. n + cond (nat_eq to rank) 1 0) (agrees.its_rounds.totals_are rank within)
          ∙ sym (totals-total rank to me.log l total);
      known_are = agrees.its_rounds.known_are;
      first_is = agrees.its_rounds.first_is;
      left_are = agrees.its_rounds.left_are;
      last_is = agrees.its_rounds.last_is;
      heard_are = agrees.its_rounds.heard_are;
    };
    outside = λ outside. absurd (false≢true (sym outside ∙ inside));
  }

  pub agrees_total : InRange barrier → IsNextTotal barrier to → BarrierAgrees barrier [] me →
      BarrierAgrees (with_total_put barrier to) [] (having_put me to (l ∷ []))
  agrees_total range next agrees = by_rank (nat_eq to 0) refl
    where
      by_rank : (first : Bool) → nat_eq to 0 ≡ first →
          BarrierAgrees (cond first (record barrier { over = barrier.over + 1; next = 1 }) (record barrier { next = to + 1 })) []
          (having_put me to (l ∷ []))
      by_rank true first =
          let is : to ≡ 0 = eqb-true _ _ first in
          let all : barrier.layout.ranks ≤ barrier.next = elim next [
            | inl one ↦ absurd (omega (arith, one.0, is, range.next_within.0))
            | inr last ↦ omega (arith, last.1)
          ] in
          with_totals (barrier.over + 1) 1 (λ rank within. put_last barrier.over barrier.next to rank is (omega (arith, within, all))) agrees
      by_rank false other =
          let is : to ≡ barrier.next = elim next [ inl one ↦ one.0 | inr last ↦ absurd (false≢true (sym other ∙ eq-eqb _ _ last.0)) ] in
          with_totals barrier.over (to + 1) (λ rank within. put_next barrier.over barrier.next to rank is (omega (arith, range.next_within.0))) agrees
