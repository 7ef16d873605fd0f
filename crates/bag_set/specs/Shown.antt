-- What a closure was shown of a set.
use Rattle.std.specs.Prelude.{◌≡◌, ℕ, List}
use Rattle.std.specs.Borrow.{Bor}
use Rattle.std.specs.Fn.{Mut, Called}

-- a call at the item, which took the closure from one state to the next
pub record ShownTo {F : Type 0} (calls : Mut F (Bor (List ℕ) × Unit {0}) (Unit {0})) (before : F) (item : List ℕ) (after : F) : Type 0 where
  pub borrowed : Bor (List ℕ)
  pub shows : borrowed.now ≡ item
  pub called : Called calls before (borrowed, tt) tt after
