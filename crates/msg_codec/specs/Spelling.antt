-- The encodings of letters and of the values in their bodies. A letter is its header and its body; letters come one after another, with
-- nothing between them.
use Rattle.std.specs.Prelude.{ℕ, List, ◌∷◌, ◌++◌, length}
use Rattle.std.specs.Int.{w32, w64, to_le_bytes}
use Rattle.std.specs.List.{flat_map}
use Rattle.msg_codec.specs.declared.letter.Letter.{Letter}

-- destination, sender, tag and the body's length, numbers with their least byte first
abbrev pub header : Letter → List ℕ
header l = to_le_bytes w32 l.to ++ to_le_bytes w32 l.from ++ l.tag ∷ to_le_bytes w32 (length l.body)

abbrev pub spelled_letter : Letter → List ℕ
spelled_letter l = header l ++ l.body

abbrev pub spelling : List Letter → List ℕ
spelling letters = flat_map spelled_letter letters

-- a number as its eight bytes, the least first
abbrev pub spelled_number : ℕ → List ℕ
spelled_number n = to_le_bytes w64 n

-- the length of a body as four bytes, and its bytes
abbrev pub spelled_body : List ℕ → List ℕ
spelled_body body = to_le_bytes w32 (length body) ++ body
