-- Tests on the numbers below another.
use Rattle.std.proofs.Common.{◌≡◌, ℕ, zero, suc, ◌<◌, ◌≤◌, Bool, true, false, cond, ◌||◌, inl, inr, refl, sym, ap, ◌∙◌, arith}
use Rattle.std.proofs.lemmas.Bool.{cases_lt, or_parts, or_left, or_right, or_from, false≢true}
use Rattle.list_facts.specs.Below.{some_below, one_more, in_a_row}

-- ---- some number passes, or none

-- where none passes, each fails
pub none_below : (test : ℕ → Bool) (n : ℕ) → some_below test n ≡ false → (k : ℕ) → k < n → test k ≡ false
unfolding some_below
none_below test zero none k lt = absurd (omega (arith, lt))
none_below test (suc n) none k lt =
    let both = or_parts (some_below test n) (test n) none in
    elim (cases_lt k n) [
      | inl less ↦ none_below test n both.0 k less
      | inr past ↦ let last : k ≡ n = omega (arith, lt, past) in ap test last ∙ both.1
    ]

-- one that passes settles it
pub some_at : (test : ℕ → Bool) (n k : ℕ) → k < n → test k ≡ true → some_below test n ≡ true
unfolding some_below
some_at test zero k lt passes = absurd (omega (arith, lt))
some_at test (suc n) k lt passes = elim (cases_lt k n) [
  | inl less ↦ or_left (some_below test n) (test n) (some_at test n k less passes)
  | inr past ↦ let last : n ≡ k = omega (arith, lt, past) in or_right (some_below test n) (test n) (ap test last ∙ passes)
]

-- where each fails, none passes
pub all_fail : (test : ℕ → Bool) (n : ℕ) → ((k : ℕ) → k < n → test k ≡ false) → some_below test n ≡ false
unfolding some_below
all_fail test zero fails = refl
all_fail test (suc n) fails =
    or_from (some_below test n) (test n) (all_fail test n (λ k lt. fails k (omega (arith, lt)))) (fails n (omega arith))

-- two tests that are equal below the number
pub some_below-same : (test other : ℕ → Bool) (n : ℕ) → ((k : ℕ) → k < n → test k ≡ other k) →
    some_below test n ≡ some_below other n
unfolding some_below
some_below-same test other zero same = refl
some_below-same test other (suc n) same =
    ap (λ b. b || test n) (some_below-same test other n (λ k lt. same k (omega (arith, lt))))
    ∙ ap (λ b. some_below other n || b) (same n (omega arith))

-- ---- how many pass in a row

one_within : (b : Bool) (x n : ℕ) → x ≤ n → cond b (suc x) x ≤ suc n
one_within true x n le = omega (arith, le)
one_within false x n le = omega (arith, le)

-- the row goes no further than the number
pub row_within : (has : ℕ → Bool) (n : ℕ) → in_a_row has n ≤ n
unfolding in_a_row
row_within has zero = omega arith
row_within has (suc n) = one_within (has (in_a_row has n)) (in_a_row has n) n (row_within has n)

one_passes : (has : ℕ → Bool) (x : ℕ) (b : Bool) → has x ≡ b → ((k : ℕ) → k < x → has k ≡ true) →
    (k : ℕ) → k < cond b (suc x) x → has k ≡ true
one_passes has x true here before k lt = elim (cases_lt k x) [
  | inl less ↦ before k less
  | inr past ↦ let last : k ≡ x = omega (arith, lt, past) in ap has last ∙ here
]
one_passes has x false here before k lt = before k lt

-- those in the row pass
pub row_passes : (has : ℕ → Bool) (n k : ℕ) → k < in_a_row has n → has k ≡ true
unfolding in_a_row
row_passes has zero k lt = absurd (omega (arith, lt))
row_passes has (suc n) k lt = one_passes has (in_a_row has n) (has (in_a_row has n)) refl (row_passes has n) k lt

one_fails : (has : ℕ → Bool) (x n : ℕ) (b : Bool) → has x ≡ b → (x < n → has x ≡ false) →
    cond b (suc x) x < suc n → has (cond b (suc x) x) ≡ false
one_fails has x n true here before lt = absurd (false≢true (sym (before (omega (arith, lt))) ∙ here))
one_fails has x n false here before lt = here

-- the first after the row fails
pub row_ends : (has : ℕ → Bool) (n : ℕ) → in_a_row has n < n → has (in_a_row has n) ≡ false
unfolding in_a_row
row_ends has zero lt = absurd (omega (arith, lt))
row_ends has (suc n) lt = one_fails has (in_a_row has n) n (has (in_a_row has n)) refl (row_ends has n) lt

one_stops : (b : Bool) (x k : ℕ) → x ≤ k → (x ≡ k → b ≡ false) → cond b (suc x) x ≤ k
one_stops true x k le fails = elim (cases_lt x k) [
  | inl less ↦ omega (arith, less)
  | inr past ↦ absurd (false≢true (sym (fails (omega (arith, le, past)))))
]
one_stops false x k le fails = le

-- the row goes no further than one that fails
pub row_stops : (has : ℕ → Bool) (k n : ℕ) → has k ≡ false → in_a_row has n ≤ k
unfolding in_a_row
row_stops has k zero fails = omega arith
row_stops has k (suc n) fails = one_stops (has (in_a_row has n)) (in_a_row has n) k (row_stops has k n fails) (λ at. ap has at ∙ fails)

-- the row is as long as some number: those below it pass, and it fails or is the last
pub row_is : (has : ℕ → Bool) (n k : ℕ) → k ≤ n → ((j : ℕ) → j < k → has j ≡ true) → (k < n → has k ≡ false) →
    in_a_row has n ≡ k
row_is has n k within passes fails = elim (cases_lt (in_a_row has n) k) [
  | inl short ↦ absurd (false≢true (sym (row_ends has n (omega (arith, short, within))) ∙ passes (in_a_row has n) short))
  | inr long ↦ elim (cases_lt k n) [
    | inl less ↦ omega (arith, long, row_stops has k n (fails less))
    | inr whole ↦ omega (arith, long, within, whole, row_within has n)
  ]
]

-- two tests that are equal below the number
pub row-same : (has other : ℕ → Bool) (n : ℕ) → ((k : ℕ) → k < n → has k ≡ other k) → in_a_row has n ≡ in_a_row other n
unfolding in_a_row
row-same has other zero same = refl
row-same has other (suc n) same =
    let x = in_a_row has n in
    ap (λ b. cond b (suc x) x) (same x (omega (arith, row_within has n)))
    ∙ ap (one_more other) (row-same has other n (λ k lt. same k (omega (arith, lt))))

-- a wider test, and more numbers
pub row_grows : (has wider : ℕ → Bool) (n m : ℕ) → ((k : ℕ) → has k ≡ true → wider k ≡ true) → n ≤ m →
    in_a_row has n ≤ in_a_row wider m
row_grows has wider n m passes le = elim (cases_lt (in_a_row wider m) (in_a_row has n)) [
  | inl short ↦
      let fails : wider (in_a_row wider m) ≡ false = row_ends wider m (omega (arith, short, le, row_within has n)) in
      absurd (false≢true (sym fails ∙ passes (in_a_row wider m) (row_passes has n (in_a_row wider m) short)))
  | inr long ↦ long
]
