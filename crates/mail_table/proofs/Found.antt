-- Lists that are read as the rule of a table reads them, by `get_elem?`.
use Rattle.std.proofs.Common.{◌≡◌, ◌≢◌, ◌⊎◌, ℕ, zero, suc, ◌+◌, ◌<◌, List, [], ◌∷◌, ◌++◌, length, get_or, set, slice_get, Some, refl, sym, ap, ◌∙◌, inl, inr, ⊎_elim, arith}
use mathlib.Core.Option.{some, some-injective, some-ne-none}
use lib.ListN.{get_elem?}
use Rattle.list_facts.specs.Prefix.{IsPrefix}

module _ {A : Type 0} where
  pub found_below : (xs : List A) (k : ℕ) (x : A) → get_elem? xs k ≡ some x → k < length xs
  found_below [] k x e = absurd (some-ne-none x (sym e))
  found_below (y ∷ ys) zero x e = omega arith
  found_below (y ∷ ys) (suc k) x e = let below = found_below ys k x e in omega arith

  pub found_there : (xs : List A) (k : ℕ) → k < length xs → (x : A) × (get_elem? xs k ≡ some x)
  found_there [] k below = absurd (omega arith)
  found_there (y ∷ ys) zero below = (y, refl)
  found_there (y ∷ ys) (suc k) below = found_there ys k (omega arith)

  pub found_one : (xs : List A) (k : ℕ) (x y : A) → get_elem? xs k ≡ some x → get_elem? xs k ≡ some y → x ≡ y
  found_one xs k x y e f = some-injective x y (sym e ∙ f)

  pub as_slice_get : (xs : List A) (k : ℕ) (x : A) → get_elem? xs k ≡ some x → slice_get xs k ≡ Some x
  as_slice_get [] k x e = absurd (some-ne-none x (sym e))
  as_slice_get (y ∷ ys) zero x e = ap Some (some-injective y x e)
  as_slice_get (y ∷ ys) (suc k) x e = as_slice_get ys k x e

  -- ---- one element more

  pub found_before : (xs : List A) (y x : A) (k : ℕ) → get_elem? (xs ++ y ∷ []) k ≡ some x → k ≢ length xs → get_elem? xs k ≡ some x
  found_before [] y x zero e other = absurd (other refl)
  found_before [] y x (suc k) e other = e
  found_before (z ∷ zs) y x zero e other = e
  found_before (z ∷ zs) y x (suc k) e other = found_before zs y x k e (λ same. other (ap suc same))

  pub found_last : (xs : List A) (y x : A) → get_elem? (xs ++ y ∷ []) (length xs) ≡ some x → y ≡ x
  found_last [] y x e = some-injective y x e
  found_last (z ∷ zs) y x e = found_last zs y x e

  pub found_more : (xs : List A) (y x : A) (k : ℕ) → get_elem? (xs ++ y ∷ []) k ≡ some x → (get_elem? xs k ≡ some x) ⊎ ((k ≡ length xs) × (y ≡ x))
  found_more [] y x zero e = inr (refl, some-injective y x e)
  found_more [] y x (suc k) e = absurd (some-ne-none x (sym e))
  found_more (z ∷ zs) y x zero e = inl e
  found_more (z ∷ zs) y x (suc k) e = ⊎_elim inl (λ (t : (k ≡ length zs) × (y ≡ x)). inr (ap suc t.0, t.1)) (found_more zs y x k e)

  -- ---- joined lists

  pub found_joined : (xs ys : List A) (x : A) (k : ℕ) → get_elem? (xs ++ ys) k ≡ some x → (get_elem? xs k ≡ some x) ⊎ ((j : ℕ) × (k ≡ length xs + j) × (get_elem? ys j ≡ some x))
  found_joined [] ys x k e = inr (k, (let n : ℕ = k in let same : n ≡ 0 + n = omega arith in same), e)
  found_joined (z ∷ zs) ys x zero e = inl e
  found_joined (z ∷ zs) ys x (suc k) e = ⊎_elim inl
      (λ (t : (j : ℕ) × (k ≡ length zs + j) × (get_elem? ys j ≡ some x)). let n : ℕ = length zs in let here : k ≡ n + t.0 = t.1 in inr (t.0, omega arith, t.2)) (found_joined zs ys x k e)

  pub same_found : (xs ys : List A) → length xs ≡ length ys → ((k : ℕ) (x : A) → get_elem? xs k ≡ some x → get_elem? ys k ≡ some x) → xs ≡ ys
  same_found [] [] e each = refl
  same_found [] (y ∷ ys) e each = absurd (omega (arith, e))
  same_found (x ∷ xs) [] e each = absurd (omega (arith, e))
  same_found (x ∷ xs) (y ∷ ys) e each = λ k. sym (some-injective y x (each 0 x refl)) k ∷ same_found xs ys (omega (arith, e)) (λ i. each (suc i)) k

  -- a prefix, and the element that comes next
  next_of : (xs rest : List A) (x : A) → get_elem? (xs ++ rest) (length xs) ≡ some x → IsPrefix (xs ++ x ∷ []) (xs ++ rest)
  next_of [] [] x e = absurd (some-ne-none x (sym e))
  next_of [] (y ∷ rest) x e = record { rest = rest; joined = ap (λ z. z ∷ rest) (sym (some-injective y x e)) }
  next_of (z ∷ zs) rest x e = let later = next_of zs rest x e in record { rest = later.rest; joined = ap (λ ws. z ∷ ws) later.joined }

  pub prefix_found : (xs ys : List A) (x : A) → IsPrefix xs ys → get_elem? ys (length xs) ≡ some x → IsPrefix (xs ++ x ∷ []) ys
  prefix_found xs ys x p e =
      let next = next_of xs p.rest x (ap (λ zs. get_elem? zs (length xs)) p.joined ∙ e) in
      record { rest = next.rest; joined = next.joined ∙ p.joined }

-- storing what is there changes nothing
pub set_same : (ns : List ℕ) (k : ℕ) → set ns k (get_or ns k 0) ≡ ns
set_same [] k = refl
set_same (n ∷ ns) zero = refl
set_same (n ∷ ns) (suc k) = λ j. n ∷ set_same ns k j
