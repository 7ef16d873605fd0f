-- Only private functions cite this module: what the words and the slots of one link say of the batches that were put
-- and taken.
use Rattle.std.specs.Prelude.{◌≡◌, ◌≢◌, ℕ, ◌+◌, ◌%◌, ◌<◌, ◌≤◌, Bool, true, false, List, length, Option, Some}
use mathlib.Core.Option.{some}
use mathlib.Core.Option as maybe
use lib.ListN.{get_elem?}
use Rattle.list_facts.specs.Prefix.{IsPrefix}

abbrev pub one_if : Bool → ℕ
one_if true = 1
one_if false = 0

-- the slots of a table: each is at home with what it holds, or out with a seat
abbrev pub Homes : Type 0 → Type 0
Homes X = List (maybe.Option (Option X))

-- what a slot at home holds of a batch that was put
abbrev pub Holds : {X : Type 0} → List X → ℕ → Option X → Type 0
Holds {X} put t value = (x : X) → get_elem? put t ≡ some x → value ≡ Some x

-- One link: the batches that were put, and whether the sender has the slot of the next one; the batches that were taken,
-- and whether the receiver still has the slot of the last. The tail word is the number put, and the head word the number
-- whose slots were freed; at most a ring of batches is between them. What was taken is what was put first. Batch
-- number t has slot t modulo ring, from base on. The slots of the next ring of batches that weren't taken are at home,
-- but for the one that the sender has; those of batches that were put hold them.
pub record LinkAgrees {X : Type 0} (ring base : ℕ) (homes : Homes X) (tail head : ℕ) (put : List X) (filling : Bool) (taken : List X) (emptying : Bool) : Type 0 where
  pub tail_is : tail ≡ length put
  pub head_is : length taken ≡ head + one_if emptying
  pub taken_are : IsPrefix taken put
  pub room : length put + one_if filling ≤ head + ring
  pub at_home : (t : ℕ) → length taken ≤ t → t < head + ring → (filling ≡ true → t ≢ length put) →
      (value : Option X) × (get_elem? homes (base + t % ring) ≡ some (some value)) × Holds put t value
