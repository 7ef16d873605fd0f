-- Items stand in the order in which they were first added.
use Rattle.std.proofs.Common.{◌≡◌, ◌≢◌, inl, inr, ℕ, suc, List, [], ◌∷◌, ◌++◌, map, Contains, refl, sym, ap, ◌∙◌, arith}
use Rattle.std.specs.Prelude.{bytes_eq}
use Rattle.list_facts.proofs.Equal.{bytes_eq-other, bytes_eq-same, cases_same}
use Rattle.list_facts.proofs.Members.{Contains-later}
use Rattle.counting_set.specs.Counting.{Counts, added}

-- a known item gets no second place
pub items-known : (item : List ℕ) (count : ℕ) (es : Counts) → Contains (map (λ e. e.0) es) item → map (λ e. e.0) (added item count es) ≡ map (λ e. e.0) es
items-known item count [] there = absurd (omega (arith, there.1))
items-known item count (e ∷ es) there =
    elim (cases_same item e.0) [
      | inl same ↦ rw (ap (λ k. bytes_eq item k) (sym same) ∙ bytes_eq-same item) refl
      | inr other ↦
          let later = Contains-later e.0 item (map (λ e. e.0) es) other there in
          rw (bytes_eq-other item e.0 other) (ap (λ is. e.0 ∷ is) (items-known item count es later))
    ]

-- a new item goes last
pub items-new : (item : List ℕ) (count : ℕ) (es : Counts) → ¬ Contains (map (λ e. e.0) es) item → map (λ e. e.0) (added item count es) ≡ map (λ e. e.0) es ++ item ∷ []
items-new item count [] absent = refl
items-new item count (e ∷ es) absent =
    let other : item ≢ e.0 = λ j. absent (0, omega arith, sym j) in
    let later : ¬ Contains (map (λ e. e.0) es) item = λ there. absent (suc there.0, omega (arith, there.1), there.2) in
    rw (bytes_eq-other item e.0 other) (ap (λ is. e.0 ∷ is) (items-new item count es later))
