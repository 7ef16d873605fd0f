-- The letters of a list by their pairs: those that run at a rank by their senders, and those that a rank sent by their
-- destinations.
use Rattle.std.proofs.Common.{◌≡◌, ◌⊎◌, ℕ, zero, suc, ◌≤◌, ◌<◌, ◌&&◌, Bool, true, nat_eq, nat_lt, ltb-true, lt-ltb, eqb-true, eq-eqb, List, length, filter, refl, inl, inr, arith, le_trans}
use Rattle.std.specs.List.{AllByRecursion}
use Rattle.std.proofs.lemmas.Bool.{cases_lt}
use Rattle.list_facts.specs.Sums.{sum_upto}
use Rattle.list_facts.proofs.Elements.{all_weaker, every}
use Rattle.list_facts.proofs.Filters.{apart, covered, fewer, none_pass}
use Rattle.list_facts.proofs.Tests.{and_first, and_second}
use Rattle.msg_codec.specs.declared.letter.Letter.{Letter}
use Rattle.world_core.specs.Pairs.{is_data, is_of_pair, of_pair, run_number, sent_number}

-- the bound in a test that two others precede
below_last : (a b : Bool) (k n : ℕ) → ((a && b) && nat_lt k n) ≡ true → k < n
below_last a b k n h = ltb-true k n (and_second (a && b) (nat_lt k n) h)

-- ---- by senders

-- a data letter for a rank, from one of the first n ranks
abbrev from_below : ℕ → ℕ → Letter → Bool
from_below here n l = (is_data l && nat_eq l.to here) && nat_lt l.from n

from_next : (here n : ℕ) (l : Letter) → from_below here (suc n) l ≡ true →
    (from_below here n l ≡ true) ⊎ (is_of_pair n here l ≡ true)
from_next here n l h =
    let both : (is_data l && nat_eq l.to here) ≡ true = and_first (is_data l && nat_eq l.to here) (nat_lt l.from (suc n)) h in
    let is : is_data l ≡ true = and_first (is_data l) (nat_eq l.to here) both in
    let for_here : nat_eq l.to here ≡ true = and_second (is_data l) (nat_eq l.to here) both in
    elim (cases_lt l.from n) [
      | inl less ↦ inl (rw (is, for_here, lt-ltb l.from n less) refl)
      | inr more ↦
          let below = below_last (is_data l) (nat_eq l.to here) l.from (suc n) h in
          let last : nat_eq l.from n ≡ true = eq-eqb l.from n (omega (arith, below, more)) in
          inr (rw (is, last, for_here) refl)
    ]

none_below_zero : (here : ℕ) (l : Letter) → from_below here 0 l ≡ true → ⊥
none_below_zero here l h = absurd (omega (arith, below_last (is_data l) (nat_eq l.to here) l.from 0 h))

senders : (here n : ℕ) (xs : List Letter) →
    length (filter (from_below here n) xs) ≤ sum_upto (λ s. length (of_pair s here xs)) n
senders here zero xs = none_pass (from_below here 0) (none_below_zero here) xs
senders here (suc n) xs =
    omega (
      arith,
      covered (from_below here (suc n)) (from_below here n) (is_of_pair n here) (from_next here n) xs,
      senders here n xs,
    )

-- the letters that run at a rank, where all come from ranks
pub by_senders : (here n : ℕ) (xs : List Letter) → AllByRecursion (λ l. is_data l ≡ true → l.from < n) xs →
    run_number here xs ≤ sum_upto (λ s. length (of_pair s here xs)) n
unfolding run_number
by_senders here n xs all =
    let wider = fewer (λ l. is_data l && nat_eq l.to here) (from_below here n) xs (all_weaker _ _ xs within all) in
    le_trans wider (senders here n xs)
  where
    within : (l : Letter) → (is_data l ≡ true → l.from < n) → (is_data l && nat_eq l.to here) ≡ true →
        from_below here n l ≡ true
    within l from is = rw (is, lt-ltb l.from n (from (and_first (is_data l) (nat_eq l.to here) is))) refl

-- ---- by destinations

-- a data letter of a rank, to one of the first n ranks
abbrev to_below : ℕ → ℕ → Letter → Bool
to_below from n l = (is_data l && nat_eq l.from from) && nat_lt l.to n

to_less : (from n : ℕ) (l : Letter) → to_below from n l ≡ true → to_below from (suc n) l ≡ true
to_less from n l h =
    let below = below_last (is_data l) (nat_eq l.from from) l.to n h in
    rw (and_first (is_data l && nat_eq l.from from) (nat_lt l.to n) h, lt-ltb l.to (suc n) (omega (arith, below))) refl

to_last : (from n : ℕ) (l : Letter) → is_of_pair from n l ≡ true → to_below from (suc n) l ≡ true
to_last from n l h =
    let at : l.to ≡ n = eqb-true l.to n (and_second (is_data l && nat_eq l.from from) (nat_eq l.to n) h) in
    rw (and_first (is_data l && nat_eq l.from from) (nat_eq l.to n) h, lt-ltb l.to (suc n) (omega (arith, at))) refl

not_both : (from n : ℕ) (l : Letter) → to_below from n l ≡ true → is_of_pair from n l ≡ true → ⊥
not_both from n l h k =
    let below = below_last (is_data l) (nat_eq l.from from) l.to n h in
    let at : l.to ≡ n = eqb-true l.to n (and_second (is_data l && nat_eq l.from from) (nat_eq l.to n) k) in
    absurd (omega (arith, below, at))

receivers : (from n : ℕ) (xs : List Letter) →
    sum_upto (λ d. length (of_pair from d xs)) n ≤ length (filter (to_below from n) xs)
receivers from zero xs = omega arith
receivers from (suc n) xs =
    omega (
      arith,
      apart (to_below from (suc n)) (to_below from n) (is_of_pair from n) (to_less from n) (to_last from n) (not_both from n) xs,
      receivers from n xs,
    )

-- the letters of its own that a rank put are no fewer than those to ranks
pub by_receivers : (from n : ℕ) (xs : List Letter) → sum_upto (λ d. length (of_pair from d xs)) n ≤ sent_number from xs
unfolding sent_number
by_receivers from n xs =
    le_trans (receivers from n xs)
    (fewer (to_below from n) (λ l. is_data l && nat_eq l.from from) xs
    (every _ xs (λ l h. and_first (is_data l && nat_eq l.from from) (nat_lt l.to n) h)))
