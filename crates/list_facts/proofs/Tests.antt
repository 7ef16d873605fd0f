-- Whether some element of a list passes a test, and tests that are joined.
use Rattle.std.proofs.Common.{◌≡◌, ℕ, zero, suc, ◌+◌, ◌<◌, Bool, true, false, cond, ◌||◌, ◌&&◌, Option, Some, None, List, [], ◌∷◌, length, take, drop, get_or, slice_get, replicate, refl, sym, ap, ◌∙◌, arith}
use Rattle.std.specs.List.{AllByRecursion, list_any}
use Rattle.std.proofs.lemmas.Bool.{and_parts, or_parts, or_right}
use Rattle.std.proofs.lemmas.List.{take_all}
use Rattle.std.proofs.lemmas.List.Folds.{list_any-append}
use Rattle.list_facts.proofs.Steps.{split_at, taken_more}

-- ---- some element passes, or none

-- none passes so far, nor does the next
pub any_none : {X : Type 0} (p : X → Bool) (xs : List X) (k : ℕ) (x : X) → slice_get xs k ≡ Some x → p x ≡ false →
    list_any p (take k xs) ≡ false → list_any p (take (k + 1) xs) ≡ false
any_none p xs k x h fails none = ap (list_any p) (taken_more xs k x h) ∙ list_any-append p (take k xs) (x ∷ []) ∙ rw (none, fails) refl

pub any_hit : {X : Type 0} (p : X → Bool) (xs : List X) (k : ℕ) (x : X) → slice_get xs k ≡ Some x → p x ≡ true → list_any p xs ≡ true
any_hit p xs k x h passes =
    ap (list_any p) (split_at xs k x h) ∙ list_any-append p (take k xs) (x ∷ drop (k + 1) xs) ∙ rw passes (or_right (list_any p (take k xs)) true refl)

pub any_all : {X : Type 0} (p : X → Bool) (xs : List X) (k : ℕ) → k ≡ length xs → list_any p (take k xs) ≡ false → list_any p xs ≡ false
any_all p xs k h none = ap (list_any p) (sym (take_all k xs (omega arith))) ∙ none

pub any_false_at : {X : Type 0} (p : X → Bool) (xs : List X) (k : ℕ) (x : X) → slice_get xs k ≡ Some x → list_any p xs ≡ false → p x ≡ false
any_false_at p xs k x h none = known (p x) refl
  where
    known : (b : Bool) → p x ≡ b → p x ≡ false
    known true passes = absurd (let hit : list_any p xs ≡ true = any_hit p xs k x h passes in cc)
    known false fails = fails

-- where each fails, none passes
pub none_any : {X : Type 0} (p : X → Bool) (xs : List X) → AllByRecursion (λ x. p x ≡ false) xs → list_any p xs ≡ false
none_any p [] h = refl
none_any p (x ∷ xs) h = rw h.0 (none_any p xs h.1)

-- ---- lists of flags

-- a flag that is raised has a place
pub raised_at : (flags : List Bool) → list_any (λ raised. raised) flags ≡ true → (i : ℕ) × (i < length flags) × (get_or flags i false ≡ true)
raised_at [] h = absurd cc
raised_at (true ∷ flags) h = (0, omega arith, refl)
raised_at (false ∷ flags) h = let later = raised_at flags h in (suc later.0, omega (arith, later.1), later.2)

pub none_raised : (n : ℕ) → list_any (λ raised. raised) (replicate n false) ≡ false
none_raised zero = refl
none_raised (suc n) = none_raised n

-- ---- tests that are joined

pub and_first : (a b : Bool) → (a && b) ≡ true → a ≡ true
and_first a b h = (and_parts a b h).0

pub and_second : (a b : Bool) → (a && b) ≡ true → b ≡ true
and_second a b h = (and_parts a b h).1

-- not both hold
pub and_false_second : (a b : Bool) → a ≡ true → (a && b) ≡ false → b ≡ false
and_false_second true b h k = k
and_false_second false b h k = absurd cc

pub or_false_first : (a b : Bool) → (a || b) ≡ false → a ≡ false
or_false_first a b h = (or_parts a b h).0

pub or_false_second : (a b : Bool) → (a || b) ≡ false → b ≡ false
or_false_second a b h = (or_parts a b h).1

pub or_assoc : (a b c : Bool) → ((a || b) || c) ≡ (a || (b || c))
or_assoc true b c = refl
or_assoc false b c = refl

-- the first of two answers isn't given
pub cond_none : {X : Type 0} (b : Bool) (x : X) (rest : Option X) → cond b (Some x) rest ≡ None → (b ≡ false) × (rest ≡ None)
cond_none true x rest h = absurd cc
cond_none false x rest h = (refl, h)
