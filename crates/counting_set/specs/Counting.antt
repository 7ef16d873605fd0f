-- A counting set: its items with their counts, in the order in which they were first added, and what
-- letters do to it.
use Rattle.std.specs.Prelude.{◌≡◌, ◌≢◌, ◌↔◌, ℕ, ◌+◌, ◌-◌, ◌^◌, ◌<◌, ◌==◌, ◌&&◌, nat_le, min, List, [], ◌∷◌, Option, Some, None, IfSome, IsSomeAnd, if◌then◌else◌, bytes_eq, count_by, length, AllPairs, Contains}
use Rattle.msg_codec.specs.declared.letter.Letter.{Letter}
use Rattle.comm_rank.specs.Fold.{Applies}
use Rattle.counting_set.specs.ItemCount.{item_count_of, spelled_item_count}

-- items with their counts
abbrev pub Counts : Type 0
Counts = List (List ℕ × ℕ)

-- a count that stays at the largest value of its type
abbrev pub capped : ℕ → ℕ
capped count = min count (2 ^ 64 - 1)

-- The item has that many more, in its place; a new item goes last.
abbrev pub added : List ℕ → ℕ → Counts → Counts
added item count [] = (item, count) ∷ []
added item count (e ∷ es) = if bytes_eq item e.0 then (e.0, capped (e.1 + count)) ∷ es else e ∷ added item count es

-- the count of the item, or 0
abbrev pub count_in : Counts → List ℕ → ℕ
count_in [] item = 0
count_in (e ∷ es) item = if bytes_eq item e.0 then e.1 else count_in es item

-- The item and the count that a letter adds: an add has the tag 1, and its body encodes nothing if it has
-- more than 1,000,200 bytes.
abbrev pub adds : Letter → Option (List ℕ × ℕ)
adds l = if (l.tag == 1) && nat_le (length l.body) 1000200 then item_count_of l.body else None

-- the contents after what is added, if anything is
abbrev pub added_if : Option (List ℕ × ℕ) → Counts → Counts
added_if None contents = contents
added_if (Some one) contents = added one.0 one.1 contents

-- what a letter does: it adds, and nothing is sent
abbrev pub counting_apply : Applies Counts
counting_apply contents here ranks l = (added_if (adds l) contents, [])

-- how many of the item a letter adds
abbrev pub share : List ℕ → Option (List ℕ × ℕ) → ℕ
share item None = 0
share item (Some one) = if bytes_eq item one.0 then one.1 else 0

abbrev pub adds_of : List ℕ → Letter → ℕ
adds_of item l = share item (adds l)

-- the letter adds at least one of an item
abbrev pub AddsSome : Letter → Type 0
AddsSome l = IsSomeAnd (adds l) (λ one. 0 < one.1)

-- what the letter adds, if anything, is at least one
abbrev pub AddsNoZero : Letter → Type 0
AddsNoZero l = IfSome (adds l) (λ one. 0 < one.1)

-- the letter by which a rank adds one of the item
abbrev pub add_letter : ℕ → ℕ → List ℕ → Letter
add_letter to from item = record { to = to; from = from; tag = 1; body = spelled_item_count item 1 }

-- each item whose count isn't 0 is there once, with its count, and nothing else is
pub record HasCounts (contents : Counts) (count_of : List ℕ → ℕ) : Type 0 where
  pub distinct : AllPairs (λ pair later. pair.0 ≢ later.0) contents
  pub counted : (x : List ℕ) (c : ℕ) → Contains contents (x, c) ↔ ((c ≡ count_of x) × (0 < c))

-- each distinct line is there once, with the number of lines equal to it, and nothing else is
abbrev pub AreCounted : Counts → List (List ℕ) → Type 0
AreCounted contents lines = HasCounts contents (λ x. count_by (λ line. bytes_eq x line) lines)
