-- Two lists put together, each in its own order.
use Rattle.std.specs.Prelude.{List, [], ◌∷◌}

-- A merge of two lists is empty where both are. Otherwise its first element is the first of one of them, and its rest is
-- a merge of what remains.
pub data IsMerge {X : Type 0} : List X → List X → List X → Type 0 where
  OfNone : IsMerge [] [] []
  FromOne : (x : X) {one other merged : List X} → IsMerge one other merged → IsMerge (x ∷ one) other (x ∷ merged)
  FromOther : (x : X) {one other merged : List X} → IsMerge one other merged → IsMerge one (x ∷ other) (x ∷ merged)
