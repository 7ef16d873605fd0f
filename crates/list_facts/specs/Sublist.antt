-- Lists with elements of another, in its order.
use Rattle.std.specs.Prelude.{List, [], ◌∷◌}

-- A list is another with some elements left out: walking along the other, each element is kept or left out.
pub data IsSublist {X : Type 0} : List X → List X → Type 0 where
  Nothing : IsSublist [] []
  Keeps : (x : X) {part whole : List X} → IsSublist part whole → IsSublist (x ∷ part) (x ∷ whole)
  LeavesOut : (x : X) {part whole : List X} → IsSublist part whole → IsSublist part (x ∷ whole)
