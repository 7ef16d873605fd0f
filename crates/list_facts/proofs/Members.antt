-- What a list contains: after a first element, after a map, and in lists joined end to end.
use Rattle.std.proofs.Common.{◌≡◌, ◌≢◌, ℕ, suc, zero, ◌-◌, ◌<◌, ◌≤◌, ◌⊎◌, List, [], ◌∷◌, map, length, ◌++◌, get_or, AllPairs, Contains, flat_map, inl, inr, refl, sym, ap, subst, arith, ⊎_elim, length-append}
use Rattle.std.proofs.lemmas.Bool.{cases_lt}
use Rattle.std.proofs.lemmas.List.{get_or_append_left, get_or-append_right}
use Rattle.std.proofs.lemmas.List.Elements.{Contains-append_left, Contains-append_right, Contains-append_cases, Contains-get_or}

module _ {X : Type 0} where
  pub Contains-here : (x : X) (xs : List X) → Contains (x ∷ xs) x
  Contains-here x xs = (0, omega arith, refl)

  pub Contains-there : (x y : X) (xs : List X) → Contains xs y → Contains (x ∷ xs) y
  Contains-there x y xs h = Contains-append_right (x ∷ []) xs y h

  pub Contains-cons_cases : (x y : X) (xs : List X) → Contains (x ∷ xs) y → (x ≡ y) ⊎ Contains xs y
  Contains-cons_cases x y xs (zero, within, is) = inl is
  Contains-cons_cases x y xs (suc k, within, is) = inr (k, omega arith, is)

  pub Contains-nil : (y : X) → Contains [] y → ⊥
  Contains-nil y (k, within, is) = omega arith

  -- what isn't the first element is a later one
  pub Contains-later : (x y : X) (xs : List X) → y ≢ x → Contains (x ∷ xs) y → Contains xs y
  Contains-later x y xs other h = ⊎_elim (λ is. absurd (other (sym is))) (λ later. later) (Contains-cons_cases x y xs h)

module _ {X Y : Type 0} (f : X → Y) where
  pub Contains-map : (xs : List X) (x : X) → Contains xs x → Contains (map f xs) (f x)
  Contains-map [] x h = absurd (Contains-nil x h)
  Contains-map (y ∷ ys) x h =
      ⊎_elim
      (λ is. subst (Contains (map f (y ∷ ys))) (ap f is) (Contains-here (f y) (map f ys)))
      (λ later. Contains-there (f y) (f x) (map f ys) (Contains-map ys x later))
      (Contains-cons_cases y x ys h)

  pub from_map : (xs : List X) (y : Y) → Contains (map f xs) y → (x : X) × Contains xs x × (f x ≡ y)
  from_map [] y h = absurd (Contains-nil y h)
  from_map (x ∷ xs) y h =
      ⊎_elim
      (λ is. (x, Contains-here x xs, is))
      (λ later. let found = from_map xs y later in (found.0, Contains-there x found.0 xs found.1, found.2))
      (Contains-cons_cases (f x) y (map f xs) h)

module _ {X : Type 0} where
  -- an element of the list at a place is an element of all
  pub Contains-joined : (xss : List (List X)) (d : ℕ) (x : X) → d < length xss → Contains (get_or xss d []) x → Contains (flat_map (λ xs. xs) xss) x
  Contains-joined [] d x within h = absurd (omega arith)
  Contains-joined (xs ∷ xss) zero x within h = Contains-append_left xs (flat_map (λ ys. ys) xss) x h
  Contains-joined (xs ∷ xss) (suc d) x within h = Contains-append_right xs (flat_map (λ ys. ys) xss) x (Contains-joined xss d x (omega arith) h)

  -- an element of all is an element of the list at some place
  pub from_joined : (xss : List (List X)) (x : X) → Contains (flat_map (λ xs. xs) xss) x → (d : ℕ) × (d < length xss) × Contains (get_or xss d []) x
  from_joined [] x h = absurd (Contains-nil x h)
  from_joined (xs ∷ xss) x h =
      ⊎_elim
      (λ first. (0, omega arith, first))
      (λ later. let found = from_joined xss x later in (suc found.0, omega (arith, found.1), found.2))
      (Contains-append_cases xs (flat_map (λ ys. ys) xss) x h)

module _ {X : Type 0} (R : X → X → Type 0) (xs ys : List X) where
  -- pairs in two lists, and from one to the other
  pub AllPairs-append : AllPairs R xs → AllPairs R ys → ((x y : X) → Contains xs x → Contains ys y → R x y) → AllPairs R (xs ++ ys)
  AllPairs-append left right across i j d less within =
      let whole = length-append xs ys in
      let far : length xs ≤ j → get_or (xs ++ ys) j d ≡ get_or ys (j - length xs) d = λ h. get_or-append_right xs ys (length xs) j d refl h in
      ⊎_elim
      (λ j_left. let e = get_or_append_left xs ys d i (omega arith) in let f = get_or_append_left xs ys d j j_left in
      subst (λ x. R x (get_or (xs ++ ys) j d)) (sym e) (subst (R (get_or xs i d)) (sym f) (left i j d less j_left)))
      (λ j_right. ⊎_elim
      (λ i_left. let e = get_or_append_left xs ys d i i_left in
      subst (λ x. R x (get_or (xs ++ ys) j d)) (sym e) (subst (R (get_or xs i d)) (sym (far j_right)) (across (get_or xs i d) (get_or ys (j - length xs) d) (Contains-get_or xs i d i_left) (Contains-get_or ys (j - length xs) d (omega arith)))))
      (λ i_right. let e = get_or-append_right xs ys (length xs) i d refl i_right in
      subst (λ x. R x (get_or (xs ++ ys) j d)) (sym e) (subst (R (get_or ys (i - length xs) d)) (sym (far j_right)) (right (i - length xs) (j - length xs) d (omega arith) (omega arith))))
      (cases_lt i (length xs)))
      (cases_lt j (length xs))
