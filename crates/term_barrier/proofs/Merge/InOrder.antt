-- A merge has the elements of both lists, each in its own order.
use Rattle.std.proofs.Common.{◌≡◌, ℕ, ◌+◌, List, sum_by, refl, arith}
use Rattle.std.proofs.lemmas.List.Sums.{sum_by-cons}
use Rattle.list_facts.specs.Sublist.{IsSublist}
use Rattle.list_facts.specs.Sublist.IsSublist.{Nothing, Keeps, LeavesOut}
use Rattle.term_barrier.specs.Merge.{IsMerge}
use Rattle.term_barrier.specs.Merge.IsMerge.{OfNone, FromOne, FromOther}

pub one_in_order : {X : Type 0} (one other merged : List X) → IsMerge one other merged → IsSublist one merged
one_in_order _ _ _ OfNone = Nothing
one_in_order _ _ _ (FromOne x {one = one} {other = other} {merged = merged} h) = Keeps x (one_in_order one other merged h)
one_in_order _ _ _ (FromOther x {one = one} {other = other} {merged = merged} h) = LeavesOut x (one_in_order one other merged h)

pub other_in_order : {X : Type 0} (one other merged : List X) → IsMerge one other merged → IsSublist other merged
other_in_order _ _ _ OfNone = Nothing
other_in_order _ _ _ (FromOne x {one = one} {other = other} {merged = merged} h) = LeavesOut x (other_in_order one other merged h)
other_in_order _ _ _ (FromOther x {one = one} {other = other} {merged = merged} h) = Keeps x (other_in_order one other merged h)

-- whatever weights elements have, those of a merge add up to those of both lists
pub merge_weight : {X : Type 0} (weight : X → ℕ) (one other merged : List X) → IsMerge one other merged →
    sum_by weight merged ≡ sum_by weight one + sum_by weight other
merge_weight weight _ _ _ OfNone = refl
merge_weight weight _ _ _ (FromOne x {one = one} {other = other} {merged = merged} h) =
    omega (arith, merge_weight weight one other merged h, sum_by-cons weight x merged, sum_by-cons weight x one)
merge_weight weight _ _ _ (FromOther x {one = one} {other = other} {merged = merged} h) =
    omega (arith, merge_weight weight one other merged h, sum_by-cons weight x merged, sum_by-cons weight x other)
