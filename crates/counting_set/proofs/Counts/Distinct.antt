-- No item stands twice in a counting set.
use Rattle.std.proofs.Common.{◌≡◌, ◌≢◌, inl, inr, ℕ, List, [], ◌∷◌, map, Option, None, Some, AllPairs, sym, ap, subst, ◌∙◌, arith, false}
use Rattle.std.specs.Prelude.{bytes_eq, ⊤}
use Rattle.std.specs.List.{AllByRecursion, IsDistinct}
use Rattle.std.proofs.lemmas.List.Kept.{AllPairs-cons}
use Rattle.std.proofs.lemmas.List.Elements.{All-from_recursion}
use Rattle.list_facts.proofs.Equal.{bytes_eq-other, bytes_eq-same, cases_same}
use Rattle.msg_codec.specs.declared.letter.Letter.{Letter}
use Rattle.comm_rank.specs.Fold.{fold_from}
use Rattle.counting_set.specs.Counting.{Counts, added, adds, counting_apply}
use Rattle.counting_set.proofs.Counts.After.{after, fold-after}

-- a later pair has another item
abbrev pub IsOther : List ℕ × ℕ → List ℕ × ℕ → Type 0
IsOther pair later = pair.0 ≢ later.0

abbrev pub Distinct : Counts → Type 0
Distinct [] = ⊤
Distinct (e ∷ es) = AllByRecursion (IsOther e) es × Distinct es

pub pairs_distinct : (es : Counts) → Distinct es → AllPairs IsOther es
pairs_distinct [] h = λ i j d lt within. absurd (omega (arith, within))
pairs_distinct (e ∷ es) h = AllPairs-cons IsOther e es (All-from_recursion (IsOther e) es h.0) (pairs_distinct es h.1)

others-added : (e : List ℕ × ℕ) (x : List ℕ) (c : ℕ) (es : Counts) → e.0 ≢ x → AllByRecursion (IsOther e) es → AllByRecursion (IsOther e) (added x c es)
others-added e x c [] ne h = (ne, tt)
others-added e x c (f ∷ es) ne h =
    elim (cases_same x f.0) [
      | inl same ↦ rw (ap (λ k. bytes_eq x k) (sym same) ∙ bytes_eq-same x) h
      | inr other ↦ rw (bytes_eq-other x f.0 other) (h.0, others-added e x c es ne h.1)
    ]

pub distinct-added : (x : List ℕ) (c : ℕ) (es : Counts) → Distinct es → Distinct (added x c es)
distinct-added x c [] h = (tt, tt)
distinct-added x c (e ∷ es) h =
    elim (cases_same x e.0) [
      | inl same ↦ rw (ap (λ k. bytes_eq x k) (sym same) ∙ bytes_eq-same x) h
      | inr other ↦ rw (bytes_eq-other x e.0 other) (others-added e x c es (λ j. other (sym j)) h.0, distinct-added x c es h.1)
    ]

pub distinct-after : (os : List (Option (List ℕ × ℕ))) (es : Counts) → Distinct es → Distinct (after es os)
distinct-after [] es h = h
distinct-after (None ∷ os) es h = distinct-after os es h
distinct-after (Some one ∷ os) es h = distinct-after os (added one.0 one.1 es) (distinct-added one.0 one.1 es h)

others_told : (e : List ℕ × ℕ) (es : Counts) → AllByRecursion (IsOther e) es → AllByRecursion (λ y. bytes_eq e.0 y ≡ false) (map (λ e. e.0) es)
others_told e [] h = tt
others_told e (f ∷ es) h = (bytes_eq-other e.0 f.0 h.0, others_told e es h.1)

items_distinct : (es : Counts) → Distinct es → IsDistinct bytes_eq (map (λ e. e.0) es)
unfolding IsDistinct
items_distinct [] h = tt
items_distinct (e ∷ es) h = (others_told e es h.0, items_distinct es h.1)

-- whatever letters run, a shard that began empty has no item twice
pub no_item_stands_twice : (here ranks : ℕ) (letters : List Letter) → IsDistinct bytes_eq (map (λ e. e.0) (fold_from counting_apply here ranks [] letters))
no_item_stands_twice here ranks letters =
    subst (λ es. IsDistinct bytes_eq (map (λ e. e.0) es)) (sym (fold-after here ranks [] letters))
    (items_distinct (after [] (map adds letters)) (distinct-after (map adds letters) [] tt))
