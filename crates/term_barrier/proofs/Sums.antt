-- Sums over the numbers below another: over fewer of them, and of a term at one place.
use Rattle.std.proofs.Common.{◌≡◌, ◌≢◌, ℕ, zero, suc, ◌≤◌, ◌<◌, Bool, true, false, cond, eqb, leb, inl, inr, refl, ap, arith}
use Rattle.std.proofs.lemmas.Bool.{cases_eq, eq-eqb, leb-false, leb-true, ne_eqb}
use Rattle.list_facts.specs.Sums.{sum_upto}

-- a sum over fewer numbers is no larger
pub sum_upto-fewer : (f : ℕ → ℕ) (k n : ℕ) → k ≤ n → sum_upto f k ≤ sum_upto f n
sum_upto-fewer f k zero le = let none : k ≡ 0 = omega (arith, le) in rw none (omega arith)
sum_upto-fewer f k (suc n) le = by_last (leb k n) refl (λ within. sum_upto-fewer f k n within)
  where
    by_last : (b : Bool) → leb k n ≡ b → (k ≤ n → sum_upto f k ≤ sum_upto f n) → sum_upto f k ≤ sum_upto f (suc n)
    by_last true within fewer = omega (arith, fewer (leb-true k n within))
    by_last false past fewer = let all : k ≡ suc n = omega (arith, le, leb-false k n past) in rw all (omega arith)

-- ---- a term at one place, and 0 elsewhere

abbrev pub at_place : ℕ → ℕ → ℕ → ℕ
at_place place term k = cond (eqb place k) term 0

at_place-other : (place term k : ℕ) → place ≢ k → at_place place term k ≡ 0
at_place-other place term k other = ap (λ b. cond b term 0) (ne_eqb place k other)

sum_upto-past_place : (place term n : ℕ) → n ≤ place → sum_upto (at_place place term) n ≡ 0
sum_upto-past_place place term zero past = refl
sum_upto-past_place place term (suc n) past =
    omega (arith, at_place-other place term n (λ e. omega (arith, past, e)), sum_upto-past_place place term n (omega (arith, past)))

pub sum_upto-at_place : (place term n : ℕ) → place < n → sum_upto (at_place place term) n ≡ term
sum_upto-at_place place term zero within = absurd (omega (arith, within))
sum_upto-at_place place term (suc n) within = elim (cases_eq place n) [
  | inl is ↦
      let here : at_place place term n ≡ term = ap (λ b. cond b term 0) (eq-eqb place n is) in
      omega (arith, here, sum_upto-past_place place term n (omega (arith, is)))
  | inr other ↦ omega (arith, at_place-other place term n other, sum_upto-at_place place term n (omega (arith, within, other)))
]
