-- Lists that repeat no element.
use Rattle.std.proofs.Common.{◌≡◌, ◌≢◌, ℕ, Bool, false, nat_eq, List, [], ◌∷◌, ◌++◌, refl, arith}
use Rattle.std.specs.List.{IsDistinct, list_any}
use Rattle.std.proofs.lemmas.Bool.{or_from}
use Rattle.std.proofs.lemmas.Bool.Decides.{nat_tests}
use Rattle.list_facts.proofs.Elements.{all_second}

-- ---- of a few numbers

apart_test : (a b : ℕ) → a ≢ b → nat_eq a b ≡ false
apart_test a b ne = grind (arith, nat_tests)

pub distinct_two : (a b : ℕ) → a ≢ b → IsDistinct nat_eq (a ∷ b ∷ [])
unfolding IsDistinct
distinct_two a b ab = ((apart_test a b ab, tt), (tt, tt))

pub distinct_three : (a b c : ℕ) → a ≢ b → a ≢ c → b ≢ c → IsDistinct nat_eq (a ∷ b ∷ c ∷ [])
unfolding IsDistinct
distinct_three a b c ab ac bc = ((apart_test a b ab, (apart_test a c ac, tt)), distinct_two b c bc)

pub distinct_four : (a b c d : ℕ) → a ≢ b → a ≢ c → a ≢ d → b ≢ c → b ≢ d → c ≢ d → IsDistinct nat_eq (a ∷ b ∷ c ∷ d ∷ [])
unfolding IsDistinct
distinct_four a b c d ab ac ad bc bd cd = ((apart_test a b ab, (apart_test a c ac, (apart_test a d ad, tt))), distinct_three b c d bc bd cd)

-- ---- what comes later doesn't come before

pub not_before : {X : Type 0} (same : X → X → Bool) (before : List X) (a b : X) (after : List X) → IsDistinct same (before ++ a ∷ b ∷ after) → list_any (λ x. same x b) (before ++ a ∷ []) ≡ false
unfolding IsDistinct
not_before same [] a b after apart = or_from (same a b) false apart.0.0 refl
not_before same (x ∷ before) a b after apart =
    or_from (same x b) (list_any (λ y. same y b) (before ++ a ∷ []))
    (all_second (λ y. same x y ≡ false) before (a ∷ b ∷ after) apart.0).1.0
    (not_before same before a b after apart.1)
