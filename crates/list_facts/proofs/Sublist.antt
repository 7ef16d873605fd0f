-- Sublists of a list.
use Rattle.std.proofs.Common.{◌≡◌, zero, suc, ◌≤◌, Bool, true, false, cond, All, AllPairs, Contains, List, [], ◌∷◌, ◌++◌, length, filter, refl, ap, subst, arith, inl, inr}
use Rattle.std.specs.List.{AllByRecursion}
use Rattle.std.proofs.lemmas.List.Elements.{All-contains, All-contains_itself}
use Rattle.list_facts.specs.Prefix.{IsPrefix}
use Rattle.list_facts.specs.Sublist.{IsSublist}
use Rattle.list_facts.specs.Sublist.IsSublist.{Nothing, Keeps, LeavesOut}
use Rattle.list_facts.proofs.Members.{Contains-cons_cases, Contains-here, Contains-there}

pub sublist_refl : {X : Type 0} (xs : List X) → IsSublist xs xs
sublist_refl [] = Nothing
sublist_refl (x ∷ xs) = Keeps x (sublist_refl xs)

pub sublist_nil : {X : Type 0} (xs : List X) → IsSublist [] xs
sublist_nil [] = Nothing
sublist_nil (x ∷ xs) = LeavesOut x (sublist_nil xs)

pub sublist_trans : {X : Type 0} {xs ys zs : List X} → IsSublist xs ys → IsSublist ys zs → IsSublist xs zs
sublist_trans h Nothing = h
sublist_trans (Keeps x h) (Keeps y k) = Keeps x (sublist_trans h k)
sublist_trans (LeavesOut x h) (Keeps y k) = LeavesOut y (sublist_trans h k)
sublist_trans h (LeavesOut y k) = LeavesOut y (sublist_trans h k)

pub sublist_length : {X : Type 0} {part whole : List X} → IsSublist part whole → length part ≤ length whole
sublist_length Nothing = omega arith
sublist_length (Keeps x h) = omega (arith, sublist_length h)
sublist_length (LeavesOut x h) = omega (arith, sublist_length h)

-- no element is left out
pub sublist_whole : {X : Type 0} {part whole : List X} → IsSublist part whole → length whole ≤ length part → part ≡ whole
sublist_whole Nothing le = refl
sublist_whole (Keeps x h) le = ap (λ ys. x ∷ ys) (sublist_whole h (omega (arith, le)))
sublist_whole (LeavesOut x h) le = absurd (omega (arith, le, sublist_length h))

-- ---- joined lists

pub sublist_join : {X : Type 0} {one whole other more : List X} → IsSublist one whole → IsSublist other more → IsSublist (one ++ other) (whole ++ more)
sublist_join Nothing k = k
sublist_join (Keeps x h) k = Keeps x (sublist_join h k)
sublist_join (LeavesOut x h) k = LeavesOut x (sublist_join h k)

-- both go on alike
pub sublist_append : {X : Type 0} {part whole : List X} (more : List X) → IsSublist part whole → IsSublist (part ++ more) (whole ++ more)
sublist_append more h = sublist_join h (sublist_refl more)

-- the list goes on
pub sublist_longer : {X : Type 0} {part whole : List X} (more : List X) → IsSublist part whole → IsSublist part (whole ++ more)
sublist_longer more Nothing = sublist_nil more
sublist_longer more (Keeps x h) = Keeps x (sublist_longer more h)
sublist_longer more (LeavesOut x h) = LeavesOut x (sublist_longer more h)

-- the list begins earlier
pub sublist_later : {X : Type 0} {part whole : List X} (before : List X) → IsSublist part whole → IsSublist part (before ++ whole)
sublist_later [] h = h
sublist_later (x ∷ before) h = LeavesOut x (sublist_later before h)

-- ---- ways to leave elements out

pub sublist_prefix : {X : Type 0} {xs ys : List X} → IsPrefix xs ys → IsSublist xs ys
sublist_prefix {X} {xs} p = subst (IsSublist xs) p.joined (sublist_longer p.rest (sublist_refl xs))

pub sublist_filter : {X : Type 0} (test : X → Bool) (xs : List X) → IsSublist (filter test xs) xs
sublist_filter test [] = Nothing
sublist_filter {X} test (x ∷ xs) = by_test (test x) (sublist_filter test xs)
  where
    by_test : (b : Bool) → IsSublist (filter test xs) xs → IsSublist (cond b (x ∷ filter test xs) (filter test xs)) (x ∷ xs)
    by_test true h = Keeps x h
    by_test false h = LeavesOut x h

-- ---- what a sublist keeps

pub sublist_contains : {X : Type 0} {part whole : List X} (x : X) → IsSublist part whole → Contains part x → Contains whole x
sublist_contains x Nothing among = among
sublist_contains x (Keeps y {part = part} {whole = whole} h) among = elim (Contains-cons_cases y x part among) [
  | inl is ↦ subst (Contains (y ∷ whole)) is (Contains-here y whole)
  | inr later ↦ Contains-there y x whole (sublist_contains x h later)
]
sublist_contains x (LeavesOut y {whole = whole} h) among = Contains-there y x whole (sublist_contains x h among)

pub sublist_all : {X : Type 0} {part whole : List X} (P : X → Type 0) → IsSublist part whole → AllByRecursion P whole → AllByRecursion P part
sublist_all P Nothing all = tt
sublist_all P (Keeps x h) all = (all.0, sublist_all P h all.1)
sublist_all P (LeavesOut x h) all = sublist_all P h all.1

-- what holds of the first element and each later one
first_pairs : {X : Type 0} (R : X → X → Type 0) (x : X) (xs : List X) → AllPairs R (x ∷ xs) → All (R x) xs
first_pairs R x xs all = λ k d within. all 0 (suc k) d (omega arith) (omega (arith, within))

later_pairs : {X : Type 0} (R : X → X → Type 0) (x : X) (xs : List X) → AllPairs R (x ∷ xs) → AllPairs R xs
later_pairs R x xs all = λ i j d less within. all (suc i) (suc j) d (omega (arith, less)) (omega (arith, within))

pairs_from : {X : Type 0} (R : X → X → Type 0) (x : X) (xs : List X) → All (R x) xs → AllPairs R xs → AllPairs R (x ∷ xs)
pairs_from R x xs first later i zero d less within = absurd (omega (arith, less))
pairs_from R x xs first later zero (suc j) d less within = first j d (omega (arith, within))
pairs_from R x xs first later (suc i) (suc j) d less within = later i j d (omega (arith, less)) (omega (arith, within))

pub sublist_pairs : {X : Type 0} {part whole : List X} (R : X → X → Type 0) → IsSublist part whole → AllPairs R whole → AllPairs R part
sublist_pairs R Nothing all = all
sublist_pairs R (Keeps x {part = part} {whole = whole} h) all =
    pairs_from R x part
    (λ k d within. All-contains (R x) whole _ (first_pairs R x whole all) (sublist_contains _ h (All-contains_itself part k d within)))
    (sublist_pairs R h (later_pairs R x whole all))
sublist_pairs R (LeavesOut x {whole = whole} h) all = sublist_pairs R h (later_pairs R x whole all)

-- ---- for the laws

pub ruleset order = (sublist_refl, sublist_trans, sublist_length, sublist_whole)

pub ruleset ways = (sublist_filter, sublist_prefix, sublist_join)
