-- A set: its items in the order in which they were inserted, and what letters do to it.
use Rattle.std.specs.Prelude.{◌≡◌, ◌⊎◌, ℕ, ◌==◌, Bool, not, List, [], ◌∷◌, ◌++◌, Option, Some, None, if◌then◌else◌, bytes_eq, filter}
use Rattle.std.specs.List.{list_any}
use Rattle.msg_codec.specs.declared.letter.Letter.{Letter}
use Rattle.msg_codec.specs.Spelling.{spelled_body}
use Rattle.comm_rank.specs.Fold.{Applies}
use Rattle.owner_send.specs.Item.{item_of}

abbrev pub Items : Type 0
Items = List (List ℕ)

-- whether the item is there
abbrev pub has : Items → List ℕ → Bool
has items item = list_any (bytes_eq item) items

-- An item that is there leaves the set unchanged; a new one goes last.
abbrev pub inserted : List ℕ → Items → Items
inserted item items = if has items item then items else items ++ item ∷ []

-- without the item, the others in their order
abbrev pub erased : List ℕ → Items → Items
erased item items = filter (λ other. not (bytes_eq item other)) items

-- The item that a letter inserts or erases: an insert has the tag 3, an erase the tag 4.
abbrev pub inserts : Letter → Option (List ℕ)
inserts l = if l.tag == 3 then item_of l.body else None

abbrev pub erases : Letter → Option (List ℕ)
erases l = if l.tag == 4 then item_of l.body else None

abbrev pub inserted_if : Option (List ℕ) → Items → Items
inserted_if None items = items
inserted_if (Some item) items = inserted item items

abbrev pub erased_if : Option (List ℕ) → Items → Items
erased_if None items = items
erased_if (Some item) items = erased item items

-- what a letter does: it inserts or erases, and nothing is sent
abbrev pub set_apply : Applies Items
set_apply contents here ranks l = (erased_if (erases l) (inserted_if (inserts l) contents), [])

-- the letter inserts the item or erases it
abbrev pub IsOf : List ℕ → Letter → Type 0
IsOf item l = (inserts l ≡ Some item) ⊎ (erases l ≡ Some item)

-- the letters by which a rank inserts and erases the item
abbrev pub insert_letter : ℕ → ℕ → List ℕ → Letter
insert_letter to from item = record { to = to; from = from; tag = 3; body = spelled_body item }

abbrev pub erase_letter : ℕ → ℕ → List ℕ → Letter
erase_letter to from item = record { to = to; from = from; tag = 4; body = spelled_body item }
