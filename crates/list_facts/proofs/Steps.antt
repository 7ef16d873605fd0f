-- One element more, as at a step of a loop over a list.
use Rattle.std.proofs.Common.{◌≡◌, ℕ, zero, suc, ◌+◌, Some, List, [], ◌∷◌, ◌++◌, take, drop, slice_get, sym, ap, subst, ◌∙◌, append_assoc, add-one}
use Rattle.std.specs.List.{FoldsTo}
use Rattle.std.proofs.lemmas.List.{take_more, take-append-drop}
use Rattle.std.proofs.lemmas.Option.{slice_get_within, get_or_from_slice_get}

pub taken_more : {X : Type 0} (xs : List X) (k : ℕ) (x : X) → slice_get xs k ≡ Some x → take (k + 1) xs ≡ take k xs ++ x ∷ []
taken_more xs k x h = take_more xs k x (slice_get_within xs k x h) ∙ ap (λ y. take k xs ++ y ∷ []) (get_or_from_slice_get xs k x x h)

-- the parts of a list before and after the place k
pub split_at : {X : Type 0} (xs : List X) (k : ℕ) (x : X) → slice_get xs k ≡ Some x → xs ≡ take k xs ++ (x ∷ drop (k + 1) xs)
split_at xs k x h =
    sym (take-append-drop (k + 1) xs) ∙ ap (λ ys. ys ++ drop (k + 1) xs) (taken_more xs k x h) ∙ append_assoc (take k xs) (x ∷ []) (drop (k + 1) xs)

pub drop_next : {X : Type 0} (xs : List X) (k : ℕ) (x : X) → slice_get xs k ≡ Some x → drop k xs ≡ x ∷ drop (suc k) xs
drop_next [] k x e = absurd cc
drop_next (y ∷ ys) zero x e = let same : y ≡ x = cc in ap (λ z. z ∷ ys) same
drop_next (y ∷ ys) (suc k) x e = drop_next ys k x e

-- a step at the element at k, and then steps at those after it
pub FoldsTo-next : {P X : Type 0} (R : P → X → P → Type 0) (before after last : P) (xs : List X) (k : ℕ) (x : X) → slice_get xs k ≡ Some x → R before x after
    → FoldsTo R after (drop (k + 1) xs) last → FoldsTo R before (drop k xs) last
FoldsTo-next R before after last xs k x at step rest =
    subst (λ ys. FoldsTo R before ys last) (sym (drop_next xs k x at ∙ ap (λ i. x ∷ drop i xs) (sym (add-one k)))) (after, step, rest)
