-- What a barrier becomes as it is handed the letter of a control.
use Rattle.std.proofs.Common.{◌≡◌, ℕ, ◌<◌, ◌≤◌, ◌+◌, ◌^◌, Bool, true, false, ◌&&◌, cond, nat_eq, nat_lt, eqb-true, List, [], ◌∷◌, length, map, filter, get_or, slice_set, refl, sym, ap, ◌∙◌, arith}
use Rattle.std.proofs.lemmas.Bool.{eqb-false, ltb-false, ltb-true}
use Rattle.std.proofs.lemmas.Grind.{get_or-set_at}
use Rattle.std.proofs.lemmas.List.{get_or-set_other, set_past}
use Rattle.list_facts.proofs.Tests.{and_first, and_second}
use Rattle.msg_codec.specs.Control.{is_count, letter_with, spelled_counts}
use Rattle.msg_codec.proofs.Controls.Body.{run_again, sent_again}
use Rattle.msg_codec.specs.declared.letter.Letter.{Letter}
use Rattle.world_core.specs.Counts.{is_count_of, is_total_to}
use Rattle.world_core.specs.Limits.{most_rounds}
use Rattle.world_core.specs.Rounds.{Sums}
use Rattle.term_barrier.specs.declared.heard.Heard.{Heard}
use Rattle.term_barrier.specs.Barriers.{BarrierState, HasRoom, counts_heard, heard_more, heard_of, none_heard, sums_of, totals_heard, with_count, with_letter, with_total}

-- the letters of a Count and of a Total
abbrev count_letter : ℕ → ℕ → ℕ → ℕ → Letter
count_letter rank q s r = letter_with 0 rank 240 q s r

abbrev total_letter : ℕ → ℕ → ℕ → ℕ → Letter
total_letter to q s r = letter_with to 0 241 q s r

total_is : (here to q s r : ℕ) → is_total_to here (total_letter to q s r) ≡ nat_eq to here
unfolding spelled_counts
total_is here to q s r = refl

sums_are : (to from tag q s r : ℕ) → s < 2 ^ 64 → r < 2 ^ 64 → sums_of (letter_with to from tag q s r) ≡ record { sent = s; run = r }
sums_are to from tag q s r s_fits r_fits = rw (sent_again to from tag q s r s_fits, run_again to from tag q s r r_fits) refl

-- ---- a Total

pub hears_total : (barrier : BarrierState) (to q s r : ℕ) → s < 2 ^ 64 → r < 2 ^ 64 → nat_eq to barrier.here ≡ true →
    with_letter barrier (total_letter to q s r) ≡ with_total barrier (record { sent = s; run = r })
hears_total barrier to q s r s_fits r_fits here =
    rw (total_is barrier.here to q s r, here) (ap (with_total barrier) (sums_are to 0 241 q s r s_fits r_fits))

pub hears_other : (barrier : BarrierState) (to q s r : ℕ) → nat_eq to barrier.here ≡ false → with_letter barrier (total_letter to q s r) ≡ barrier
hears_other barrier to q s r other = rw (total_is barrier.here to q s r, other) refl

pub room_for_total : (barrier : BarrierState) (to q s r : ℕ) → HasRoom barrier (total_letter to q s r ∷ []) → nat_eq to barrier.here ≡ true → barrier.known < barrier.counted
room_for_total barrier to q s r room here =
    let one : length (totals_heard barrier.here (total_letter to q s r ∷ [])) ≡ 1 = rw (total_is barrier.here to q s r, here) refl in
    omega (arith, room.known, one)

-- ---- a Count

hears_count : (barrier : BarrierState) (rank q s r : ℕ) → s < 2 ^ 64 → r < 2 ^ 64 →
    with_letter barrier (count_letter rank q s r) ≡ with_count barrier rank (record { sent = s; run = r })
unfolding spelled_counts
hears_count barrier rank q s r s_fits r_fits = ap (with_count barrier rank) (sums_are 0 rank 240 q s r s_fits r_fits)

abbrev pub with_heard : BarrierState → List Heard → BarrierState
with_heard barrier heard = record barrier { heard = heard }

pub hears_of_rank : (barrier : BarrierState) (rank q s r : ℕ) (one : Heard) → s < 2 ^ 64 → r < 2 ^ 64 →
    one ≡ heard_more (heard_of barrier rank) (record { sent = s; run = r }) →
    with_heard barrier (slice_set barrier.heard rank one) ≡ with_letter barrier (count_letter rank q s r)
hears_of_rank barrier rank q s r one s_fits r_fits same =
    ap (λ now. with_heard barrier (slice_set barrier.heard rank now)) same ∙ sym (hears_count barrier rank q s r s_fits r_fits)

pub hears_of_none : (barrier : BarrierState) (rank q s r : ℕ) → s < 2 ^ 64 → r < 2 ^ 64 → length barrier.heard ≤ rank →
    barrier ≡ with_letter barrier (count_letter rank q s r)
hears_of_none barrier rank q s r s_fits r_fits past =
    let sums : Sums = record { sent = s; run = r } in
    ap (with_heard barrier) (sym (set_past barrier.heard rank (heard_more (heard_of barrier rank) sums) past))
    ∙ sym (hears_count barrier rank q s r s_fits r_fits)

-- ---- room for letters, one after another

-- how many of these letters pass, with one more
passed_more : (p : Letter → Bool) (l : Letter) (letters : List Letter) →
    length (map sums_of (filter p (l ∷ letters))) ≡ cond (p l) 1 0 + length (map sums_of (filter p letters))
passed_more p l letters = by_test (p l)
  where
    by_test : (b : Bool) → length (map sums_of (cond b (l ∷ filter p letters) (filter p letters))) ≡ cond b 1 0 + length (map sums_of (filter p letters))
    by_test true = omega arith
    by_test false = omega arith

pub room_for_first : (barrier : BarrierState) (l : Letter) (letters : List Letter) → HasRoom barrier (l ∷ letters) → HasRoom barrier (l ∷ [])
room_for_first barrier l letters room = record {
  known = omega (arith, room.known, passed_more (is_total_to barrier.here) l letters, passed_more (is_total_to barrier.here) l []);
  heard = λ from within. omega (arith, room.heard from within, passed_more (is_count_of from) l letters, passed_more (is_count_of from) l []);
}

same_if : {a b : Bool} → a ≡ b → (x y : ℕ) → cond a x y ≡ cond b x y
same_if same x y = rw same refl

-- a barrier heard at most one Count more of a rank, and none of another
one_heard : (barrier : BarrierState) (rank from : ℕ) (sums : Sums) →
    (heard_of (with_count barrier rank sums) from).rounds ≤ (heard_of barrier from).rounds + cond (nat_eq rank from) 1 0
one_heard barrier rank from sums = by_rank (nat_eq rank from) refl
  where
    one : Heard
    one = heard_more (heard_of barrier rank) sums

    by_place : (b : Bool) → nat_lt rank (length barrier.heard) ≡ b → rank ≡ from → (heard_of (with_count barrier rank sums) from).rounds ≤ (heard_of barrier from).rounds + 1
    by_place true within same =
        omega (arith, ap (λ h. h.rounds) (get_or-set_at barrier.heard rank from one none_heard (sym same) (ltb-true _ _ within)), ap (λ r. (heard_of barrier r).rounds) same)
    by_place false past same =
        omega (arith, ap (λ heard. (get_or heard from none_heard).rounds) (set_past barrier.heard rank one (ltb-false _ _ past)))

    by_rank : (b : Bool) → nat_eq rank from ≡ b → (heard_of (with_count barrier rank sums) from).rounds ≤ (heard_of barrier from).rounds + cond b 1 0
    by_rank true same = by_place (nat_lt rank (length barrier.heard)) refl (eqb-true rank from same)
    by_rank false other =
        omega (arith, ap (λ h. h.rounds) (get_or-set_other barrier.heard rank from one none_heard (λ e. eqb-false rank from other (sym e))))

pub room_for_rest : (barrier : BarrierState) (l : Letter) (letters : List Letter) → HasRoom barrier (l ∷ letters) → HasRoom (with_letter barrier l) letters
room_for_rest barrier l letters room = by_total (is_total_to barrier.here l) refl
  where
    more_known : (b : Bool) → is_total_to barrier.here l ≡ b → barrier.known + cond b 1 0 + length (totals_heard barrier.here letters) ≤ barrier.counted
    more_known b is = omega (arith, room.known, passed_more (is_total_to barrier.here) l letters, same_if is 1 0)

    more_heard : (from : ℕ) → from < barrier.layout.ranks → (heard_of barrier from).rounds + cond (is_count_of from l) 1 0 + length (counts_heard from letters) ≤ most_rounds + 2
    more_heard from within = omega (arith, room.heard from within, passed_more (is_count_of from) l letters)

    by_count : (b : Bool) → (is_count l && nat_eq l.to 0) ≡ b → is_total_to barrier.here l ≡ false → HasRoom (cond b (with_count barrier l.from (sums_of l)) barrier) letters
    by_count true is other = record {
      known = omega (arith, more_known false other);
      heard = λ from within. omega (arith, more_heard from within, one_heard barrier l.from from (sums_of l), same_test from 1 0);
    }
      where
        by_from : (b : Bool) → (b && true) ≡ b
        by_from true = refl
        by_from false = refl

        same_test : (from x y : ℕ) → cond (is_count_of from l) x y ≡ cond (nat_eq l.from from) x y
        same_test from x y =
            rw (and_first (is_count l) (nat_eq l.to 0) is, and_second (is_count l) (nat_eq l.to 0) is) (same_if (by_from (nat_eq l.from from)) x y)
    by_count false is other = record {
      known = omega (arith, more_known false other);
      heard = λ from within. omega (arith, more_heard from within);
    }

    by_total : (b : Bool) → is_total_to barrier.here l ≡ b →
        HasRoom (cond b (with_total barrier (sums_of l)) (cond (is_count l && nat_eq l.to 0) (with_count barrier l.from (sums_of l)) barrier)) letters
    by_total true is = record {
      known = omega (arith, more_known true is);
      heard = λ from within. omega (arith, more_heard from within);
    }
    by_total false other = by_count (is_count l && nat_eq l.to 0) refl other
