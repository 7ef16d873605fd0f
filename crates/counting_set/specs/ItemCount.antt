-- An item and its count, as they are encoded in the body of a letter that adds to a counting set.
use Rattle.std.specs.Prelude.{ℕ, List, ◌++◌, Option}
use Rattle.msg_codec.specs.Reading.{body_reading, number_reading, pair_reading, whole}
use Rattle.msg_codec.specs.Spelling.{spelled_body, spelled_number}

-- the item, and then its count
abbrev pub spelled_item_count : List ℕ → ℕ → List ℕ
spelled_item_count item count = spelled_body item ++ spelled_number count

-- the item and the count whose encoding is all of the bytes, if there is one
unfoldable pub item_count_of : List ℕ → Option (List ℕ × ℕ)
item_count_of bytes = whole (pair_reading body_reading number_reading) bytes
