-- Lists of lists that have one element each.
use Rattle.std.proofs.Common.{◌≡◌, ℕ, ◌+◌, sym, List, [], ◌∷◌, ◌++◌, length, take, drop, Option, Some, None, refl, ap, arith, length-append, ◌∙◌}
use Rattle.std.specs.Option.{MatchOption, option_to_list}
use Rattle.std.specs.List.{flat_map, AllByRecursion}

abbrev pub Singles : {X : Type 0} → List (List X) → Type 0
Singles {X} = AllByRecursion (λ (b : List X). length b ≡ 1)

abbrev pub joined : {X : Type 0} → List (List X) → List X
joined {X} bs = flat_map (λ (b : List X). b) bs

pub length-joined : {X : Type 0} → (bs : List (List X)) → Singles bs → length bs ≡ length (joined bs)
length-joined [] h = refl
length-joined (b ∷ bs) h = omega (arith, length-append b (joined bs), h.0, length-joined bs h.1)

pub drop-joined : {X : Type 0} → (bs : List (List X)) → Singles bs → joined (drop 1 bs) ≡ drop 1 (joined bs)
drop-joined [] h = refl
drop-joined ([] ∷ bs) h = absurd (omega (arith, h.0))
drop-joined ((x ∷ []) ∷ bs) h = refl
drop-joined ((x ∷ y ∷ b) ∷ bs) h = absurd (omega (arith, h.0))

pub first-joined : {X : Type 0} → (b : List X) (bs : List (List X)) → Singles (b ∷ bs) → take 1 (joined (b ∷ bs)) ≡ b
first-joined [] bs h = absurd (omega (arith, h.0))
first-joined (x ∷ []) bs h = refl
first-joined (x ∷ y ∷ b) bs h = absurd (omega (arith, h.0))

pub first_and_rest : {X : Type 0} (xs b : List X) → take 1 xs ≡ b → length b ≡ 1 → xs ≡ b ++ drop 1 xs
first_and_rest [] b h one = absurd (let none = ap length h in omega arith)
first_and_rest (x ∷ xs) b h one = ap (λ ys. ys ++ xs) h

-- the first of the lists has the first of all elements
pub popped : {X : Type 0} (bs : List (List X)) (now : List (List X)) (xs : List X) (r : Option (List X)) (n m : ℕ) → Singles bs → joined bs ≡ xs → n ≡ length bs →
    bs ≡ option_to_list r ++ now → MatchOption r ((n ≡ 0) × (m ≡ 0)) (λ _. m + 1 ≡ n) → MatchOption r (xs ≡ []) (λ b. take 1 xs ≡ b)
popped [] now xs None n m h is len all none = sym is
popped (b ∷ bs) now xs None n m h is len all none = absurd (omega (arith, none.0))
popped [] now xs (Some b) n m h is len all none = absurd (let e : [] ≡ b ∷ now = all in cc)
popped (a ∷ bs) now xs (Some b) n m h is len all none =
    let e : a ∷ bs ≡ b ∷ now = all in
    let same : a ≡ b = cc in
    ap (take 1) (sym is) ∙ first-joined a bs h ∙ same
