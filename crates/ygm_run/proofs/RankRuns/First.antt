-- What holds of the jobs of the first ranks, as loops over ranks find it.
use Rattle.std.proofs.Common.{◌≡◌, ℕ, ◌+◌, ◌<◌, ◌≤◌, ◌∙◌, List, Option, None, Some, Result, Ok, IfNone, IfSome, length, refl, sym, ap, subst, inl, inr, arith, slice_get}
use Rattle.std.specs.Result.{IsOk}
use Rattle.std.proofs.lemmas.Bool.{cases_lt}
use Rattle.std.proofs.lemmas.Option.{slice_get_within}
use Rattle.list_facts.proofs.Places.{same_item}

-- one element more
pub first_more : {X : Type 0} (P : X → Type 0) (xs : List X) (n : ℕ) (x : X) → slice_get xs n ≡ Some x → P x →
    ((k : ℕ) (y : X) → k < n → slice_get xs k ≡ Some y → P y) → (k : ℕ) (y : X) → k < n + 1 → slice_get xs k ≡ Some y → P y
first_more P xs n x at here before k y lt there = elim (cases_lt k n) [
  | inl less ↦ before k y less there
  | inr past ↦
      let e : n ≡ k = omega (arith, lt, past) in
      subst P (same_item xs k x y (subst (λ i. slice_get xs i ≡ Some x) e at) there) here
]

-- all elements
pub first_all : {X : Type 0} (P : X → Type 0) (xs : List X) (n : ℕ) → length xs ≤ n →
    ((k : ℕ) (y : X) → k < n → slice_get xs k ≡ Some y → P y) → (k : ℕ) (y : X) → slice_get xs k ≡ Some y → P y
first_all P xs n all before k y there = before k y (let within = slice_get_within xs k y there in omega (arith, within, all)) there

-- ---- how a job has ended

pub finished_ok : {T E : Type 0} (ended : Option (Result T E)) (how : Result T E) (done : T) → ended ≡ Some how → how ≡ Ok done → IfSome ended IsOk
finished_ok ended how done is ok = subst (λ e. IfSome e IsOk) (sym (is ∙ ap Some ok)) refl

pub going_ok : {T E : Type 0} (ended : Option (Result T E)) → ended ≡ None → IfSome ended IsOk
going_ok ended is = subst (λ e. IfSome e IsOk) (sym is) tt

pub if_none : {X : Type 0} (o : Option X) (P : Type 0) → (o ≡ None → P) → IfNone o P
if_none None P holds = holds refl
if_none (Some x) P holds = tt
