-- What holds of each element of a list.
use Rattle.std.proofs.Common.{◌≡◌, ℕ, zero, suc, ◌<◌, Bool, true, false, cond, Some, List, [], ◌∷◌, ◌++◌, length, take, drop, get_or, refl, sym, ap, ◌∙◌, subst, if◌then◌else◌, arith}
use Rattle.std.specs.List.{AllByRecursion, find}
use Rattle.list_facts.specs.Prefix.{IsPrefix}

-- what holds of every value holds of each element
pub every : {X : Type 0} (P : X → Type 0) (xs : List X) → ((x : X) → P x) → AllByRecursion P xs
every P [] f = tt
every P (x ∷ xs) f = (f x, every P xs f)

pub all_weaker : {X : Type 0} (P Q : X → Type 0) (xs : List X) → ((x : X) → P x → Q x) → AllByRecursion P xs → AllByRecursion Q xs
all_weaker P Q [] f h = tt
all_weaker P Q (x ∷ xs) f h = (f x h.0, all_weaker P Q xs f h.1)

-- what follows from two that hold of each element
pub both_of : {X : Type 0} (P Q R : X → Type 0) (xs : List X) → ((x : X) → P x → Q x → R x) →
    AllByRecursion P xs → AllByRecursion Q xs → AllByRecursion R xs
both_of P Q R [] f h k = tt
both_of P Q R (x ∷ xs) f h k = (f x h.0 k.0, both_of P Q R xs f h.1 k.1)

-- ---- of joined lists

pub all_append : {X : Type 0} (P : X → Type 0) (xs ys : List X) → AllByRecursion P xs → AllByRecursion P ys → AllByRecursion P (xs ++ ys)
all_append P [] ys h k = k
all_append P (x ∷ xs) ys h k = (h.0, all_append P xs ys h.1 k)

pub all_first : {X : Type 0} (P : X → Type 0) (xs ys : List X) → AllByRecursion P (xs ++ ys) → AllByRecursion P xs
all_first P [] ys h = tt
all_first P (x ∷ xs) ys h = (h.0, all_first P xs ys h.1)

pub all_second : {X : Type 0} (P : X → Type 0) (xs ys : List X) → AllByRecursion P (xs ++ ys) → AllByRecursion P ys
all_second P [] ys h = h
all_second P (x ∷ xs) ys h = all_second P xs ys h.1

-- ---- of parts

pub all_prefix : {X : Type 0} {xs ys : List X} (P : X → Type 0) → IsPrefix xs ys → AllByRecursion P ys → AllByRecursion P xs
all_prefix {X} {xs} P p h = all_first P xs p.rest (let Q : List X → Type 0 = AllByRecursion P in subst Q (sym p.joined) h)

pub all_take : {X : Type 0} (P : X → Type 0) (k : ℕ) (xs : List X) → AllByRecursion P xs → AllByRecursion P (take k xs)
all_take P zero xs h = tt
all_take P (suc k) [] h = tt
all_take P (suc k) (x ∷ xs) h = (h.0, all_take P k xs h.1)

pub all_drop : {X : Type 0} (P : X → Type 0) (k : ℕ) (xs : List X) → AllByRecursion P xs → AllByRecursion P (drop k xs)
all_drop P zero xs h = h
all_drop P (suc k) [] h = tt
all_drop P (suc k) (x ∷ xs) h = all_drop P k xs h.1

-- of the element at a place
pub all_at : {X : Type 0} (P : X → Type 0) (xs : List X) → AllByRecursion P xs → (k : ℕ) (d : X) → k < length xs → P (get_or xs k d)
all_at P [] h k d within = absurd (omega (arith, within))
all_at P (x ∷ xs) h zero d within = h.0
all_at P (x ∷ xs) h (suc k) d within = all_at P xs h.1 k d (omega (arith, within))

-- of a list or none
pub all_if : {X : Type 0} (P : X → Type 0) (b : Bool) (xs : List X) → (b ≡ true → AllByRecursion P xs) → AllByRecursion P (if b then xs else [])
all_if P true xs f = f refl
all_if P false xs f = tt

-- of the first element that passes a test
pub find_found : {X : Type 0} (P : X → Type 0) (p : X → Bool) (xs : List X) (x : X) → AllByRecursion P xs →
    find p xs ≡ Some x → P x × (p x ≡ true)
find_found P p [] x all h = absurd cc
find_found {X} P p (y ∷ ys) x all h = by_test (find_found P p ys x all.1) (p y) refl h
  where
    by_test : (find p ys ≡ Some x → P x × (p x ≡ true)) → (b : Bool) → p y ≡ b → cond b (Some y) (find p ys) ≡ Some x → P x × (p x ≡ true)
    by_test later true passes g = let same : y ≡ x = cc in (subst P same all.0, ap p (sym same) ∙ passes)
    by_test later false fails g = later g
