-- What a test keeps of a list, and how much.
use Rattle.std.proofs.Common.{◌≡◌, ℕ, zero, suc, ◌+◌, ◌≤◌, ◌⊎◌, Bool, true, false, cond, Some, List, [], ◌∷◌, ◌++◌, length, take, drop, filter, slice_get, refl, sym, ap, ◌∙◌, subst, inl, inr, arith}
use Rattle.std.specs.List.{AllByRecursion}
use Rattle.std.proofs.lemmas.Bool.{false≢true}
use Rattle.std.proofs.lemmas.List.Elements.{filter-append}
use Rattle.std.proofs.lemmas.List.Filters.{length-filter_more}
use Rattle.std.proofs.lemmas.Option.{slice_get_within, get_or_from_slice_get}
use Rattle.list_facts.proofs.Places.{item_at_end}
use Rattle.list_facts.proofs.Steps.{split_at}

-- ---- all or none

-- none is kept by a test that fails at each
pub filter_none : {X : Type 0} (test : X → Bool) (xs : List X) → AllByRecursion (λ x. test x ≡ false) xs → filter test xs ≡ []
filter_none test [] h = refl
filter_none test (x ∷ xs) h = rw h.0 (filter_none test xs h.1)

kept_one : {X : Type 0} (b : Bool) (x : X) (ys : List X) → cond b (x ∷ ys) ys ≡ [] → (b ≡ false) × (ys ≡ [])
kept_one true x ys h = absurd cc
kept_one false x ys h = (refl, h)

-- where none is kept, the test fails at each
pub none_kept : {X : Type 0} (test : X → Bool) (xs : List X) → filter test xs ≡ [] → AllByRecursion (λ x. test x ≡ false) xs
none_kept test [] h = tt
none_kept test (x ∷ xs) h = let both = kept_one (test x) x (filter test xs) h in (both.0, none_kept test xs both.1)

-- all are kept by a test that passes at each
pub filter_all : {X : Type 0} (test : X → Bool) (xs : List X) → AllByRecursion (λ x. test x ≡ true) xs → filter test xs ≡ xs
filter_all test [] h = refl
filter_all test (x ∷ xs) h = rw h.0 (ap (λ ys. x ∷ ys) (filter_all test xs h.1))

pick : {X : Type 0} (Q : Type 0) (b : Bool) (x : X) (ys : List X) → (b ≡ true → Q) → (ys ≡ []) ⊎ Q → (cond b (x ∷ ys) ys ≡ []) ⊎ Q
pick Q true x ys f rest = inr (f refl)
pick Q false x ys f rest = rest

-- none is kept, or one is and so a claim holds
pub none_or : {X : Type 0} (test : X → Bool) (Q : Type 0) (xs : List X) → AllByRecursion (λ x. test x ≡ true → Q) xs → (filter test xs ≡ []) ⊎ Q
none_or test Q [] h = inl refl
none_or test Q (x ∷ xs) h = pick Q (test x) x (filter test xs) h.0 (none_or test Q xs h.1)

-- ---- two tests

-- what passes a test passes a wider one too
pub filter_within : {X : Type 0} (p q : X → Bool) (xs : List X) → ((x : X) → p x ≡ true → q x ≡ true) → filter p (filter q xs) ≡ filter p xs
filter_within p q [] within = refl
filter_within {X} p q (x ∷ xs) within = by (q x) (p x) refl refl (filter_within p q xs within) where
  by : (wide narrow : Bool) → q x ≡ wide → p x ≡ narrow → filter p (filter q xs) ≡ filter p xs → filter p (cond (q x) (x ∷ filter q xs) (filter q xs)) ≡ cond (p x) (x ∷ filter p xs) (filter p xs)
  by true narrow w n later = ap (λ b. filter p (cond b (x ∷ filter q xs) (filter q xs))) w ∙ ap (λ ys. cond (p x) (x ∷ ys) ys) later
  by false true w n later = absurd (false≢true (sym w ∙ within x n))
  by false false w n later = ap (λ b. filter p (cond b (x ∷ filter q xs) (filter q xs))) w ∙ later ∙ sym (ap (λ b. cond b (x ∷ filter p xs) (filter p xs)) n)

longer : {X : Type 0} (x : X) (xs ys : List X) (a b : Bool) → (a ≡ true → b ≡ true) → length xs ≤ length ys → length (cond a (x ∷ xs) xs) ≤ length (cond b (x ∷ ys) ys)
longer x xs ys true true f le = omega arith
longer x xs ys true false f le = absurd (let t = f refl in cc)
longer x xs ys false true f le = omega arith
longer x xs ys false false f le = le

-- a test that passes wherever another does passes as often
pub fewer : {X : Type 0} (p q : X → Bool) (xs : List X) → AllByRecursion (λ x. p x ≡ true → q x ≡ true) xs → length (filter p xs) ≤ length (filter q xs)
fewer p q [] f = omega arith
fewer p q (x ∷ xs) f = longer x (filter p xs) (filter q xs) (p x) (q x) f.0 (fewer p q xs f.1)

shared : {X : Type 0} (x : X) (xs ys zs : List X) (a b c : Bool) → (a ≡ true → (b ≡ true) ⊎ (c ≡ true)) → length xs ≤ length ys + length zs →
    length (cond a (x ∷ xs) xs) ≤ length (cond b (x ∷ ys) ys) + length (cond c (x ∷ zs) zs)
shared x xs ys zs true true true f le = omega arith
shared x xs ys zs true true false f le = omega arith
shared x xs ys zs true false true f le = omega arith
shared x xs ys zs true false false f le = elim (f refl) [ inl h ↦ absurd cc | inr h ↦ absurd cc ]
shared x xs ys zs false true true f le = omega arith
shared x xs ys zs false true false f le = omega arith
shared x xs ys zs false false true f le = omega arith
shared x xs ys zs false false false f le = le

-- two tests that between them pass wherever another does
pub covered : {X : Type 0} (p q r : X → Bool) → ((x : X) → p x ≡ true → (q x ≡ true) ⊎ (r x ≡ true)) → (xs : List X) → length (filter p xs) ≤ length (filter q xs) + length (filter r xs)
covered p q r f [] = omega arith
covered p q r f (x ∷ xs) = shared x (filter p xs) (filter q xs) (filter r xs) (p x) (q x) (r x) (f x) (covered p q r f xs)

split : {X : Type 0} (x : X) (xs ys zs : List X) (a b c : Bool) → (b ≡ true → a ≡ true) → (c ≡ true → a ≡ true) →
    (b ≡ true → c ≡ true → ⊥) → length ys + length zs ≤ length xs →
    length (cond b (x ∷ ys) ys) + length (cond c (x ∷ zs) zs) ≤ length (cond a (x ∷ xs) xs)
split x xs ys zs a true true f g h le = absurd (h refl refl)
split x xs ys zs true true false f g h le = omega (arith, le)
split x xs ys zs true false true f g h le = omega (arith, le)
split x xs ys zs true false false f g h le = omega (arith, le)
split x xs ys zs false true false f g h le = absurd (false≢true (f refl))
split x xs ys zs false false true f g h le = absurd (false≢true (g refl))
split x xs ys zs false false false f g h le = le

-- two tests of which no element passes both, where another passes wherever one of them does
pub apart : {X : Type 0} (p q r : X → Bool) → ((x : X) → q x ≡ true → p x ≡ true) → ((x : X) → r x ≡ true → p x ≡ true) →
    ((x : X) → q x ≡ true → r x ≡ true → ⊥) → (xs : List X) → length (filter q xs) + length (filter r xs) ≤ length (filter p xs)
apart p q r f g h [] = omega arith
apart p q r f g h (x ∷ xs) =
    split x (filter p xs) (filter q xs) (filter r xs) (p x) (q x) (r x) (f x) (g x) (h x) (apart p q r f g h xs)

-- ---- how many pass

one_fewer : {X : Type 0} (b : Bool) (x : X) (xs : List X) (most : ℕ) → length xs ≤ most → length (cond b (x ∷ xs) xs) ≤ most + 1
one_fewer true x xs most h = omega (arith, h)
one_fewer false x xs most h = omega (arith, h)

-- no more than there are
pub filter_fewer : {X : Type 0} (p : X → Bool) (xs : List X) → length (filter p xs) ≤ length xs
filter_fewer p [] = omega arith
filter_fewer p (x ∷ xs) = omega (arith, one_fewer (p x) x (filter p xs) (length xs) (filter_fewer p xs))

none_one : {X : Type 0} (x : X) (xs : List X) (a : Bool) → (a ≡ true → ⊥) → length xs ≤ 0 → length (cond a (x ∷ xs) xs) ≤ 0
none_one x xs true f le = absurd (f refl)
none_one x xs false f le = le

-- none passes a test that never passes
pub none_pass : {X : Type 0} (p : X → Bool) → ((x : X) → p x ≡ true → ⊥) → (xs : List X) → length (filter p xs) ≤ 0
none_pass p f [] = omega arith
none_pass p f (x ∷ xs) = none_one x (filter p xs) (p x) (f x) (none_pass p f xs)

-- one element more
pub count_more : {X : Type 0} (p : X → Bool) (xs : List X) (k : ℕ) (x : X) → slice_get xs k ≡ Some x →
    length (filter p (take (k + 1) xs)) ≡ length (filter p (take k xs)) + cond (p x) 1 0
count_more p xs k x h = length-filter_more p xs k x (slice_get_within xs k x h) ∙ ap (λ y. length (filter p (take k xs)) + cond (p y) 1 0) (get_or_from_slice_get xs k x x h)

pub count_yes : {X : Type 0} (p : X → Bool) (xs : List X) (k : ℕ) (x : X) → slice_get xs k ≡ Some x → p x ≡ true →
    length (filter p (take (k + 1) xs)) ≡ length (filter p (take k xs)) + 1
count_yes p xs k x h passes = count_more p xs k x h ∙ rw passes refl

pub count_no : {X : Type 0} (p : X → Bool) (xs : List X) (k : ℕ) (x : X) → slice_get xs k ≡ Some x → p x ≡ false →
    length (filter p (take (k + 1) xs)) ≡ length (filter p (take k xs))
count_no p xs k x h fails = count_more p xs k x h ∙ rw fails (omega arith)

-- ---- which are kept, and where

kept_first : {X : Type 0} (p : X → Bool) (x : X) (rest : List X) → p x ≡ true → filter p (x ∷ rest) ≡ x ∷ filter p rest
kept_first p x rest passes = rw passes refl

-- one that passes is kept after as many as passed before it
pub kept_at : {X : Type 0} (p : X → Bool) (xs : List X) (k : ℕ) (x : X) (n : ℕ) → slice_get xs k ≡ Some x → p x ≡ true → n ≡ length (filter p (take k xs)) →
    slice_get (filter p xs) n ≡ Some x
kept_at p xs k x n h passes count =
    let kept : filter p xs ≡ filter p (take k xs) ++ (x ∷ filter p (drop (k + 1) xs)) =
    ap (filter p) (split_at xs k x h) ∙ filter-append p (take k xs) (x ∷ drop (k + 1) xs) ∙ ap (λ ys. filter p (take k xs) ++ ys) (kept_first p x (drop (k + 1) xs) passes) in
    rw (kept, count) (item_at_end (filter p (take k xs)) x (filter p (drop (k + 1) xs)))

-- what is kept passes, and has what holds of each element
pub found : {X : Type 0} (p : X → Bool) (P : X → Type 0) (xs : List X) (n : ℕ) (x : X) → slice_get (filter p xs) n ≡ Some x → AllByRecursion P xs → (p x ≡ true) × P x
found p P [] n x h all = absurd cc
found p P (y ∷ xs) n x h all = by_test (λ m g. found p P xs m x g all.1) (p y) refl n h
  where
    by_test : ((m : ℕ) → slice_get (filter p xs) m ≡ Some x → (p x ≡ true) × P x) → (b : Bool) → p y ≡ b → (n : ℕ) →
        slice_get (cond b (y ∷ filter p xs) (filter p xs)) n ≡ Some x → (p x ≡ true) × P x
    by_test later true passes_here zero g = let same : y ≡ x = cc in (ap p (sym same) ∙ passes_here, subst P same all.0)
    by_test later true passes_here (suc n) g = later n g
    by_test later false fails n g = later n g
