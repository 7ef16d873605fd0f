-- The element at a place of a list.
use Rattle.std.proofs.Common.{◌≡◌, ◌≢◌, ℕ, zero, suc, ◌+◌, ◌<◌, Some, List, [], ◌∷◌, ◌++◌, length, drop, get_or, set, slice_get, refl, sym, ap, ◌∙◌, subst, arith, length-set}
use Rattle.std.proofs.lemmas.Option.{same_Some, slice_get-get_or, slice_get_within}

pub same_item : {X : Type 0} (xs : List X) (k : ℕ) (x y : X) → slice_get xs k ≡ Some x → slice_get xs k ≡ Some y → x ≡ y
same_item xs k x y e f = same_Some x y (sym e ∙ f)

-- a list that is as long has an element there too
pub item_there : {X : Type 0} (xs ys : List X) (k : ℕ) (x : X) → slice_get xs k ≡ Some x → length ys ≡ length xs → slice_get ys k ≡ Some (get_or ys k x)
item_there xs ys k x e all = slice_get-get_or ys k x (let lt = slice_get_within xs k x e in omega (arith, lt, all))

-- the first element, and the others
pub item_first : {X : Type 0} (xs : List X) (x : X) → slice_get xs 0 ≡ Some x → xs ≡ x ∷ drop 1 xs
item_first [] x e = absurd cc
item_first (y ∷ xs) x e = let same : y ≡ x = cc in ap (λ z. z ∷ xs) same

-- ---- one element changed

pub item_set : {X : Type 0} (xs : List X) (k : ℕ) (y : X) → k < length xs → slice_get (set xs k y) k ≡ Some y
item_set [] k y lt = absurd (omega (arith, lt))
item_set (x ∷ xs) zero y lt = refl
item_set (x ∷ xs) (suc k) y lt = item_set xs k y (omega (arith, lt))

pub item_kept : {X : Type 0} (xs : List X) (k j : ℕ) (y : X) → j ≢ k → slice_get (set xs k y) j ≡ slice_get xs j
item_kept [] k j y ne = refl
item_kept (x ∷ xs) zero zero y ne = absurd (ne refl)
item_kept (x ∷ xs) zero (suc j) y ne = refl
item_kept (x ∷ xs) (suc k) zero y ne = refl
item_kept (x ∷ xs) (suc k) (suc j) y ne = item_kept xs k j y (λ e. ne (ap suc e))

-- the element at the place that was changed
pub item_placed : {X : Type 0} (xs : List X) (k r : ℕ) (x y : X) → r ≡ k → slice_get (set xs k y) r ≡ Some x → y ≡ x
item_placed xs k r x y is at =
    let there = subst (λ i. slice_get (set xs k y) i ≡ Some x) is at in
    same_item (set xs k y) k y x (item_set xs k y (omega (arith, slice_get_within (set xs k y) k x there, length-set xs k y))) there

-- ---- joined lists

pub item_left : {X : Type 0} (xs ys : List X) (k : ℕ) → k < length xs → slice_get (xs ++ ys) k ≡ slice_get xs k
item_left [] ys k lt = absurd (omega (arith, lt))
item_left (x ∷ xs) ys zero lt = refl
item_left (x ∷ xs) ys (suc k) lt = item_left xs ys k (omega (arith, lt))

pub item_still : {X : Type 0} (xs ys : List X) (k : ℕ) (x : X) → slice_get xs k ≡ Some x → slice_get (xs ++ ys) k ≡ Some x
item_still xs ys k x at = item_left xs ys k (slice_get_within xs k x at) ∙ at

pub item_right : {X : Type 0} (xs ys : List X) (k : ℕ) → slice_get (xs ++ ys) (length xs + k) ≡ slice_get ys k
item_right [] ys k = let e : 0 + k ≡ k = omega arith in ap (slice_get ys) e
item_right (x ∷ xs) ys k = let e : suc (length xs) + k ≡ suc (length xs + k) = omega arith in ap (slice_get (x ∷ (xs ++ ys))) e ∙ item_right xs ys k

pub item_at_end : {X : Type 0} (xs : List X) (y : X) (rest : List X) → slice_get (xs ++ (y ∷ rest)) (length xs) ≡ Some y
item_at_end [] y rest = refl
item_at_end (x ∷ xs) y rest = item_at_end xs y rest

-- what holds at each place of a list, and at that of one element more
pub each_place_more : {X : Type 0} (P : ℕ → X → Type 0) (xs : List X) (new : X) → ((k : ℕ) (x : X) → slice_get xs k ≡ Some x → P k x) → P (length xs) new →
    (k : ℕ) (x : X) → slice_get (xs ++ new ∷ []) k ≡ Some x → P k x
each_place_more P [] new each new_too zero x at = let e : new ≡ x = cc in subst (P 0) e new_too
each_place_more P [] new each new_too (suc k) x at = absurd cc
each_place_more P (y ∷ ys) new each new_too zero x at = each zero x at
each_place_more P (y ∷ ys) new each new_too (suc k) x at = each_place_more (λ j. P (suc j)) ys new (λ j z there. each (suc j) z there) new_too k x at

pub each_item_more : {X : Type 0} (P : X → Type 0) (xs : List X) (new : X) → ((k : ℕ) (x : X) → slice_get xs k ≡ Some x → P x) → P new → (k : ℕ) (x : X) → slice_get (xs ++ new ∷ []) k ≡ Some x → P x
each_item_more P xs new each new_too = each_place_more (λ k. P) xs new each new_too
