-- Puts of Totals, one after another.
use Rattle.std.proofs.Common.{◌≡◌, ℕ, ◌+◌, ◌≤◌, Bool, true, false, cond, nat_eq, nat_lt, ne_eqb, suc, inl, inr, List, ◌++◌, append_assoc, refl, sym, ap, ◌∙◌, subst, arith}
use Rattle.std.proofs.lemmas.Bool.{cases_lt, ltb-false, ltb-true}
use Rattle.msg_codec.specs.declared.letter.Letter.{Letter}
use Rattle.world_core.specs.Counts.{counts}
use Rattle.world_core.specs.Post.{PostState, SameFulls, local_at}
use Rattle.world_core.specs.Rounds.{Sums}
use Rattle.world_core.specs.Rules.{IsHonest}
use Rattle.world_core.proofs.Counts.BeforeCount.{counts-append}
use Rattle.list_facts.proofs.Elements.{all_append}
use Rattle.comm_rank.specs.Fold.{Applies}
use Rattle.comm_rank.specs.Turns.{PutsKeep}
use Rattle.comm_rank.specs.Rank.{Rank, held_letters}
use Rattle.comm_rank.proofs.Moves.OnePut.{keeps_then}
use Rattle.term_barrier.specs.Barriers.{BarrierState, HasTotalsDue, IsNextTotal, IsTotalDue, destination, round_sums, with_total_put}
use Rattle.term_barrier.specs.Polls.{HasPutControls, PutsControl, Stands}

-- ---- puts, and more puts

abbrev with_puts : BarrierState → BarrierState → BarrierState
with_puts now one = record one { counted = now.counted; over = now.over; next = now.next }

pub controls_then : (held : List Letter) (a b c : BarrierState) (t u v : PostState) → HasPutControls held a b t u → HasPutControls held b c u v → HasPutControls held a c t v
controls_then held a b c t u v first later =
    let here : b.here ≡ a.here = ap (λ (x : BarrierState). x.here) first.barrier in
    let log : v.log a.here ≡ u.log a.here ++ later.controls = subst (λ h. v.log h ≡ u.log h ++ later.controls) here later.log in
    record {
      controls = first.controls ++ later.controls;
      log = log ∙ ap (λ entries. entries ++ later.controls) first.log ∙ append_assoc (t.log a.here) first.controls later.controls;
      each = all_append PutsControl first.controls later.controls first.each later.each;
      counted = omega (arith, later.counted, first.counted, counts-append first.controls later.controls);
      none_held = λ some. elim (cases_lt 0 (counts first.controls)) [
        | inl before ↦ first.none_held before
        | inr none ↦ later.none_held (omega (arith, some, none, counts-append first.controls later.controls))
      ];
      barrier = later.barrier ∙ ap (with_puts c) first.barrier;
      keeps = keeps_then a.here t u v first.keeps (subst (λ h. PutsKeep h u v) here later.keeps);
      honest = λ honest. subst (λ h. IsHonest (local_at u h) → IsHonest (local_at v h)) here later.honest (first.honest honest);
    }

-- ---- Totals

-- The Totals up to this rank were put, of the round whose sums these are.
pub record TotalsPut {C : Type 0} (apply : Applies C) (start : C → C) (me : Rank C) (k : ℕ) (old now : BarrierState) (before after : PostState) : Type 0 where
  pub stands : Stands apply start now me after
  pub controls : HasPutControls (held_letters me) old now before after
  pub fulls : SameFulls before after
  pub within : k ≤ old.layout.ranks → now ≡ record old { next = k }
  pub past : k ≡ old.layout.ranks + 1 → now ≡ record old { over = old.over + 1; next = 1 }

module _ {C : Type 0} (apply : Applies C) (start : C → C) (me : Rank C) (old : BarrierState) (before : PostState) where
  pub totals_first : Stands apply start old me before → old.next ≤ old.layout.ranks → HasPutControls (held_letters me) old old before before →
      TotalsPut apply start me old.next old old before before
  totals_first stands next none = record {
    stands = stands;
    controls = none;
    fulls = λ rank. refl;
    within = λ lt. refl;
    past = λ end. absurd (omega (arith, next, end));
  }

  module _ (k : ℕ) (now : BarrierState) (mid : PostState) (so_far : TotalsPut apply start me k old now before mid) (within : k ≤ old.layout.ranks) (some : 1 ≤ k) where
    now_is : now ≡ record old { next = k }
    now_is = so_far.within within

    next_is : IsNextTotal (record old { next = k }) (destination old.layout.ranks k)
    next_is = by_rank (nat_lt k old.layout.ranks) refl
      where
        by_rank : (b : Bool) → nat_lt k old.layout.ranks ≡ b → IsNextTotal (record old { next = k }) (cond b k 0)
        by_rank true lt = inl (refl, ltb-true k old.layout.ranks lt)
        by_rank false ge = let past = ltb-false k old.layout.ranks ge in inr (refl, omega (arith, past, within))

    pub total_is_due : HasTotalsDue old → (sums : Sums) → sums ≡ round_sums old → IsTotalDue now (destination old.layout.ranks k) sums
    total_is_due due sums sums_are =
        subst (λ b. IsTotalDue b (destination old.layout.ranks k) sums) (sym now_is) (record {
          every = due.every;
          counted = omega (arith, due.present, due.counted);
          sums_are = sums_are;
          next = next_is;
        })

    with_total_is : (b : Bool) → nat_lt k old.layout.ranks ≡ b →
        (suc k ≤ old.layout.ranks → with_total_put (record old { next = k }) (cond b k 0) ≡ record old { next = suc k })
        × (suc k ≡ old.layout.ranks + 1 → with_total_put (record old { next = k }) (cond b k 0) ≡ record old { over = old.over + 1; next = 1 })
    with_total_is true lt =
        let other : nat_eq k 0 ≡ false = ne_eqb k 0 (λ e. absurd (omega (arith, e, some))) in
        let number : k + 1 ≡ suc k = omega arith in
        (λ more. rw (other, number) refl, λ end. absurd (omega (arith, end, ltb-true k old.layout.ranks lt)))
    with_total_is false ge = (λ more. absurd (omega (arith, more, ltb-false k old.layout.ranks ge)), λ end. refl)

    pub totals_more : (new : BarrierState) (after : PostState) → new ≡ with_total_put now (destination old.layout.ranks k) →
        SameFulls mid after → HasPutControls (held_letters me) now new mid after → Stands apply start new me after →
        TotalsPut apply start me (suc k) old new before after
    totals_more new after put fulls controls stands =
        let is : new ≡ with_total_put (record old { next = k }) (destination old.layout.ranks k) =
        put ∙ ap (λ b. with_total_put b (destination old.layout.ranks k)) now_is in
        let either = with_total_is (nat_lt k old.layout.ranks) refl in
        record {
          stands = stands;
          controls = controls_then (held_letters me) old now new before mid after so_far.controls controls;
          fulls = λ rank. fulls rank ∙ so_far.fulls rank;
          within = λ more. is ∙ either.0 more;
          past = λ end. is ∙ either.1 end;
        }
