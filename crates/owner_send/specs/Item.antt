-- An item, or the key of an entry, as it is encoded in the body of a letter to a shard.
use Rattle.std.specs.Prelude.{ℕ, List, Option, None, if◌then◌else◌, nat_le, length}
use Rattle.msg_codec.specs.Reading.{body_reading, whole}

-- the most bytes that an item may have
abbrev pub max_item : ℕ
max_item = 1000100

-- The most bytes of a body that a shard reads: room for an item, and for what may follow it.
abbrev pub max_read : ℕ
max_read = 1000200

-- The item whose encoding is all of the bytes, if there is one. Bytes that a shard doesn't read encode none.
unfoldable pub item_of : List ℕ → Option (List ℕ)
item_of bytes = if nat_le (length bytes) max_read then whole body_reading bytes else None
