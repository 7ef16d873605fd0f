-- What a closure was shown of a counting set.
use Rattle.std.specs.Prelude.{◌≡◌, ℕ, List}
use Rattle.std.specs.Borrow.{Bor}
use Rattle.std.specs.Fn.{Mut, Called}

-- a call at the item and its count, which took the closure from one state to the next
pub record ShownTo {F : Type 0} (calls : Mut F (Bor (List ℕ) × (ℕ × Unit {0})) (Unit {0})) (before : F) (pair : List ℕ × ℕ) (after : F) : Type 0 where
  pub item : Bor (List ℕ)
  pub shows : item.now ≡ pair.0
  pub called : Called calls before (item, (pair.1, tt)) tt after
