-- Sums over a list, and over the numbers below another.
use Rattle.std.proofs.Common.{◌≡◌, ℕ, zero, suc, ◌+◌, ◌*◌, ◌<◌, ◌≤◌, List, [], ◌∷◌, map, length, get_or, sum_by, inl, inr, refl, sym, ap, ◌∙◌, arith}
use Rattle.std.proofs.lemmas.Bool.{cases_lt}
use Rattle.std.proofs.lemmas.List.Sums.{sum_by-cons}
use Rattle.list_facts.specs.Sums.{sum_upto}

-- over what a function makes of the elements
pub sum_by-map : {X Y : Type 0} (f : Y → ℕ) (g : X → Y) (xs : List X) → sum_by f (map g xs) ≡ sum_by (λ x. f (g x)) xs
sum_by-map f g [] = refl
sum_by-map f g (x ∷ xs) = sum_by-cons f (g x) (map g xs) ∙ ap (λ n. f (g x) + n) (sum_by-map f g xs) ∙ sym (sum_by-cons (λ x. f (g x)) x xs)

-- one for each element
pub sum_by-ones : {X : Type 0} (xs : List X) → length xs ≡ sum_by (λ x. 1) xs
sum_by-ones [] = refl
sum_by-ones (x ∷ xs) = omega (arith, sum_by-ones xs, sum_by-cons (λ x. 1) x xs)

-- ---- over numbers

pub sum_upto-same : (f g : ℕ → ℕ) (n : ℕ) → ((s : ℕ) → s < n → f s ≡ g s) → sum_upto f n ≡ sum_upto g n
sum_upto-same f g zero h = refl
sum_upto-same f g (suc n) h = omega (arith, h n (omega arith), sum_upto-same f g n (λ s lt. h s (omega (arith, lt))))

pub sum_upto-zero : (n : ℕ) → sum_upto (λ s. 0) n ≡ 0
sum_upto-zero zero = refl
sum_upto-zero (suc n) = omega (arith, sum_upto-zero n)

pub sum_upto-add : (f g : ℕ → ℕ) (n : ℕ) → sum_upto (λ s. f s + g s) n ≡ sum_upto f n + sum_upto g n
sum_upto-add f g zero = refl
sum_upto-add f g (suc n) = omega (arith, sum_upto-add f g n)

pub sum_upto-le : (f : ℕ → ℕ) (most n : ℕ) → ((s : ℕ) → s < n → f s ≤ most) → sum_upto f n ≤ n * most
sum_upto-le f most zero h = omega arith
sum_upto-le f most (suc n) h = omega (arith, h n (omega arith), sum_upto-le f most n (λ s lt. h s (omega (arith, lt))))

-- each term at most another
pub sum_upto-each_le : (f g : ℕ → ℕ) (n : ℕ) → ((s : ℕ) → s < n → f s ≤ g s) → sum_upto f n ≤ sum_upto g n
sum_upto-each_le f g zero h = omega arith
sum_upto-each_le f g (suc n) h = omega (arith, h n (omega arith), sum_upto-each_le f g n (λ s lt. h s (omega (arith, lt))))

-- terms that are at most others, and add up to the same, are the same
pub sum_upto-equal : (f g : ℕ → ℕ) (n : ℕ) → ((s : ℕ) → s < n → f s ≤ g s) → sum_upto f n ≡ sum_upto g n →
    (s : ℕ) → s < n → f s ≡ g s
sum_upto-equal f g zero h same s lt = absurd (omega (arith, lt))
sum_upto-equal f g (suc n) h same s lt =
    let before : (r : ℕ) → r < n → f r ≤ g r = λ r less. h r (omega (arith, less)) in
    let sums : sum_upto f n ≤ sum_upto g n = sum_upto-each_le f g n before in
    let last : f n ≤ g n = h n (omega arith) in
    elim (cases_lt s n) [
      | inl less ↦ sum_upto-equal f g n before (omega (arith, same, sums, last)) s less
      | inr past ↦
          let here : s ≡ n = omega (arith, lt, past) in
          let equal : f n ≡ g n = omega (arith, same, sums, last) in
          ap f here ∙ equal ∙ ap g (sym here)
    ]

-- the order of two sums
pub sum_upto-swap : (f : ℕ → ℕ → ℕ) (n m : ℕ) →
    sum_upto (λ a. sum_upto (λ b. f a b) m) n ≡ sum_upto (λ b. sum_upto (λ a. f a b) n) m
sum_upto-swap f zero m = sym (sum_upto-zero m)
sum_upto-swap f (suc n) m =
    ap (λ rest. sum_upto (λ b. f n b) m + rest) (sum_upto-swap f n m)
    ∙ sym (sum_upto-add (λ b. f n b) (λ b. sum_upto (λ a. f a b) n) m)

-- from the first number on
pub sum_upto-first : (f : ℕ → ℕ) (n : ℕ) → sum_upto f (suc n) ≡ f 0 + sum_upto (λ s. f (suc s)) n
sum_upto-first f zero = refl
sum_upto-first f (suc n) = omega (arith, sum_upto-first f n)

-- over the places of a list
pub sum_upto-list : {X : Type 0} (f : X → ℕ) (d : X) (xs : List X) → sum_upto (λ s. f (get_or xs s d)) (length xs) ≡ sum_by f xs
sum_upto-list f d [] = refl
sum_upto-list f d (x ∷ xs) = sum_upto-first (λ s. f (get_or (x ∷ xs) s d)) (length xs) ∙ ap (λ n. f x + n) (sum_upto-list f d xs) ∙ sym (sum_by-cons f x xs)
