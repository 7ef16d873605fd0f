-- A bag: its items in the order in which they were inserted, and what letters do to it.
use Rattle.std.specs.Prelude.{ℕ, ◌+◌, ◌%◌, ◌==◌, zero, suc, List, [], ◌++◌, Option, None, if◌then◌else◌}
use Rattle.std.specs.List.{flat_map}
use Rattle.std.specs.Option.{option_to_list}
use Rattle.msg_codec.specs.declared.letter.Letter.{Letter}
use Rattle.msg_codec.specs.Spelling.{spelled_body}
use Rattle.comm_rank.specs.Fold.{Applies}
use Rattle.owner_send.specs.Item.{item_of}

abbrev pub Items : Type 0
Items = List (List ℕ)

-- The item that a letter inserts: an insert has the tag 2.
abbrev pub inserts : Letter → Option (List ℕ)
inserts l = if l.tag == 2 then item_of l.body else None

-- what a letter does: its item goes last, and nothing is sent
abbrev pub bag_apply : Applies Items
bag_apply contents here ranks l = (contents ++ option_to_list (inserts l), [])

-- the items that letters insert, in order
abbrev pub all_inserted : List Letter → Items
all_inserted letters = flat_map (λ l. option_to_list (inserts l)) letters

-- the letter by which a rank inserts the item
abbrev pub insert_letter : ℕ → ℕ → List ℕ → Letter
insert_letter to from item = record { to = to; from = from; tag = 2; body = spelled_body item }

-- the rank to which the next item goes after one more was accepted
abbrev pub next_turn : ℕ → ℕ → ℕ
next_turn ranks next = (next + 1) % ranks

-- and after so many were accepted
abbrev pub turn_after : ℕ → ℕ → ℕ → ℕ
turn_after ranks next zero = next
turn_after ranks next (suc count) = turn_after ranks (next_turn ranks next) count
