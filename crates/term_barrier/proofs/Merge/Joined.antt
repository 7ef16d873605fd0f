-- Merges of lists joined end to end, and merges with no elements of one list.
use Rattle.std.proofs.Common.{◌≡◌, List, [], ◌∷◌, ◌++◌, refl, ap, subst, append-nil}
use Rattle.term_barrier.specs.Merge.{IsMerge}
use Rattle.term_barrier.specs.Merge.IsMerge.{OfNone, FromOne, FromOther}

pub merge_append : {X : Type 0} {one other merged more_one more_other more_merged : List X} → IsMerge one other merged →
    IsMerge more_one more_other more_merged → IsMerge (one ++ more_one) (other ++ more_other) (merged ++ more_merged)
merge_append OfNone k = k
merge_append (FromOne x h) k = FromOne x (merge_append h k)
merge_append (FromOther x h) k = FromOther x (merge_append h k)

-- ---- all are elements of one list

pub merge_of_one : {X : Type 0} (xs : List X) → IsMerge xs [] xs
merge_of_one [] = OfNone
merge_of_one (x ∷ xs) = FromOne x (merge_of_one xs)

pub merge_of_other : {X : Type 0} (xs : List X) → IsMerge [] xs xs
merge_of_other [] = OfNone
merge_of_other (x ∷ xs) = FromOther x (merge_of_other xs)

pub merge_is_other : {X : Type 0} (other merged : List X) → IsMerge [] other merged → merged ≡ other
merge_is_other _ _ OfNone = refl
merge_is_other _ _ (FromOther x {other = other} {merged = merged} h) = ap (λ xs. x ∷ xs) (merge_is_other other merged h)

pub merge_is_one : {X : Type 0} (one merged : List X) → IsMerge one [] merged → merged ≡ one
merge_is_one _ _ OfNone = refl
merge_is_one _ _ (FromOne x {one = one} {merged = merged} h) = ap (λ xs. x ∷ xs) (merge_is_one one merged h)

-- ---- more elements

-- more of the one list come last
pub merge_one_more : {X : Type 0} {one other merged : List X} (more : List X) → IsMerge one other merged →
    IsMerge (one ++ more) other (merged ++ more)
merge_one_more {X} {one} {other} {merged} more h =
    subst (λ xs. IsMerge (one ++ more) xs (merged ++ more)) (append-nil other) (merge_append h (merge_of_one more))

-- more of the other list come last
pub merge_other_more : {X : Type 0} {one other merged : List X} (more : List X) → IsMerge one other merged →
    IsMerge one (other ++ more) (merged ++ more)
merge_other_more {X} {one} {other} {merged} more h =
    subst (λ xs. IsMerge xs (other ++ more) (merged ++ more)) (append-nil one) (merge_append h (merge_of_other more))

-- ---- the same lists

pub merge_same : {X : Type 0} {one other merged one_now other_now merged_now : List X} →
    one ≡ one_now → other ≡ other_now → merged ≡ merged_now → IsMerge one other merged → IsMerge one_now other_now merged_now
merge_same {X} {one} {other} {merged} {one_now} {other_now} {merged_now} a b c h =
    subst (λ xs. IsMerge xs other_now merged_now) a (subst (λ xs. IsMerge one xs merged_now) b (subst (IsMerge one other) c h))
