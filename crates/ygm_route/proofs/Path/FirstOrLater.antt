-- A rank that a path passes, and a link that it crosses, is its first or a later one.
use Rattle.std.proofs.Common.{◌≡◌, ℕ, Bool, true, false, ◌||◌, ◌&&◌, nat_eq, eq-eqb, List, [], ◌∷◌, ap, ◌∙◌, inl, inr, ◌⊎◌}
use Rattle.std.proofs.lemmas.Bool.{and_parts, eqb-true, or_cases, or_right}
use Rattle.ygm_route.specs.Path.{passes, crosses}

-- a rank of the path is its first or one of the rest
pub passes-cons : (x : ℕ) (xs : List ℕ) (r : ℕ) → passes (x ∷ xs) r ≡ true → (x ≡ r) ⊎ (passes xs r ≡ true)
passes-cons x xs r h = elim (or_cases (nat_eq x r) (passes xs r) h) [ inl e ↦ inl (eqb-true x r e) | inr t ↦ inr t ]

pub passes_first : (x : ℕ) (xs : List ℕ) (r : ℕ) → x ≡ r → passes (x ∷ xs) r ≡ true
passes_first x xs r e = ap (λ b. b || passes xs r) (eq-eqb x r e)

pub passes_later : (x : ℕ) (xs : List ℕ) (r : ℕ) → passes xs r ≡ true → passes (x ∷ xs) r ≡ true
passes_later x xs r h = or_right (nat_eq x r) (passes xs r) h

-- a link of the path is its first or one of the rest
pub crosses-cons : (x y : ℕ) (rest : List ℕ) (a b : ℕ) → crosses (x ∷ y ∷ rest) a b ≡ true → ((x ≡ a) × (y ≡ b)) ⊎ (crosses (y ∷ rest) a b ≡ true)
crosses-cons x y rest a b h = elim (or_cases (nat_eq x a && nat_eq y b) (crosses (y ∷ rest) a b) h) [
  | inl e ↦ (let p : (nat_eq x a ≡ true) × (nat_eq y b ≡ true) = and_parts _ _ e in inl (eqb-true x a p.0, eqb-true y b p.1))
  | inr t ↦ inr t
]

pub crosses_first : (x y : ℕ) (rest : List ℕ) (a b : ℕ) → x ≡ a → y ≡ b → crosses (x ∷ y ∷ rest) a b ≡ true
crosses_first x y rest a b e f =
    let p : nat_eq x a ≡ true = eq-eqb x a e in
    let q : nat_eq y b ≡ true = eq-eqb y b f in
    ap (λ t. (t && nat_eq y b) || crosses (y ∷ rest) a b) p ∙ ap (λ t. t || crosses (y ∷ rest) a b) q

pub crosses_later : (x y : ℕ) (rest : List ℕ) (a b : ℕ) → crosses (y ∷ rest) a b ≡ true → crosses (x ∷ y ∷ rest) a b ≡ true
crosses_later x y rest a b h = or_right (nat_eq x a && nat_eq y b) (crosses (y ∷ rest) a b) h

module _ (r : ℕ) where
  pub one_of_two : (s d : ℕ) → passes (s ∷ d ∷ []) r ≡ true → (s ≡ r) ⊎ (d ≡ r)
  one_of_two s d h = elim (passes-cons s (d ∷ []) r h) [
    | inl e ↦ inl e
    | inr t ↦ elim (passes-cons d [] r t) [ inl e ↦ inr e | inr none ↦ absurd (let f : ◌≡◌ {A = Bool} false true = none in cc) ]
  ]

  pub one_of_three : (s m d : ℕ) → passes (s ∷ m ∷ d ∷ []) r ≡ true → (s ≡ r) ⊎ ((m ≡ r) ⊎ (d ≡ r))
  one_of_three s m d h = elim (passes-cons s (m ∷ d ∷ []) r h) [ inl e ↦ inl e | inr t ↦ inr (one_of_two m d t) ]

  pub one_of_four : (s m k d : ℕ) → passes (s ∷ m ∷ k ∷ d ∷ []) r ≡ true → (s ≡ r) ⊎ ((m ≡ r) ⊎ ((k ≡ r) ⊎ (d ≡ r)))
  one_of_four s m k d h = elim (passes-cons s (m ∷ k ∷ d ∷ []) r h) [ inl e ↦ inl e | inr t ↦ inr (one_of_three m k d t) ]

module _ (a b : ℕ) where
  pub link_of_two : (s d : ℕ) → crosses (s ∷ d ∷ []) a b ≡ true → (s ≡ a) × (d ≡ b)
  link_of_two s d h = elim (crosses-cons s d [] a b h) [ inl e ↦ e | inr none ↦ absurd (let f : ◌≡◌ {A = Bool} false true = none in cc) ]

  pub link_of_three : (s m d : ℕ) → crosses (s ∷ m ∷ d ∷ []) a b ≡ true → ((s ≡ a) × (m ≡ b)) ⊎ ((m ≡ a) × (d ≡ b))
  link_of_three s m d h = elim (crosses-cons s m (d ∷ []) a b h) [ inl e ↦ inl e | inr t ↦ inr (link_of_two m d t) ]

  pub link_of_four : (s m k d : ℕ) → crosses (s ∷ m ∷ k ∷ d ∷ []) a b ≡ true → ((s ≡ a) × (m ≡ b)) ⊎ (((m ≡ a) × (k ≡ b)) ⊎ ((k ≡ a) × (d ≡ b)))
  link_of_four s m k d h = elim (crosses-cons s m (k ∷ d ∷ []) a b h) [ inl e ↦ inl e | inr t ↦ inr (link_of_three m k d t) ]
