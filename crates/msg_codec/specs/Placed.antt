-- The letters that bytes encode, each at its place.
use Rattle.std.specs.Prelude.{◌≡◌, ℕ, ◌+◌, ◌<◌, ◌≤◌, ◌^◌, List, [], ◌∷◌, length, take, drop, map, slice_index, All}
use Rattle.std.specs.Int.{w32, from_le_bytes}
use Rattle.msg_codec.specs.declared.letter.Letter.{Letter}
use Rattle.msg_codec.specs.Bytes.{AreBytes}
use Rattle.msg_codec.specs.Limits.{max_body}
use Rattle.msg_codec.specs.Spelling.{spelled_letter, spelling}

-- each field fits its type
pub record Fits (l : Letter) : Type 0 where
  pub to_fits : l.to < 2 ^ 32
  pub from_fits : l.from < 2 ^ 32
  pub tag_fits : l.tag < 2 ^ 8
  pub body_short : length l.body ≤ max_body
  pub bytes_fit : AreBytes l.body

-- the length of the body of the letter that the bytes begin with, by its length field
unfoldable pub stated_length : List ℕ → ℕ
stated_length bytes = from_le_bytes w32 (drop 9 bytes)

-- the letter that the bytes begin with
unfoldable pub first_letter : List ℕ → Letter
first_letter bytes = record {
  to = from_le_bytes w32 bytes;
  from = from_le_bytes w32 (drop 4 bytes);
  tag = slice_index bytes 8;
  body = take (stated_length bytes) (drop 13 bytes);
}

-- the letters that begin at these places of the bytes
abbrev pub letters_at : List ℕ → List ℕ → List Letter
letters_at bytes places = map (λ place. first_letter (drop place bytes)) places

-- the places at which the letters of the bytes begin: the first, if there are bytes, at 0, and then the later ones
abbrev pub starts_of : List ℕ → List ℕ → List ℕ
starts_of [] later = later
starts_of (b ∷ bytes) later = 0 ∷ later

-- the place at which each of the letters begins, the first at this one
abbrev pub places_from : ℕ → List Letter → List ℕ
places_from place [] = []
places_from place (l ∷ letters) = place ∷ places_from (place + length (spelled_letter l)) letters

-- the bytes encode the letters that begin at the places, and nothing else
pub record IsBatch (bytes places : List ℕ) : Type 0 where
  pub spelled : bytes ≡ spelling (letters_at bytes places)
  pub placed : places ≡ places_from 0 (letters_at bytes places)
  pub fit : All Fits (letters_at bytes places)

-- a whole letter begins at the place
pub record IsHeld (bytes : List ℕ) (place : ℕ) : Type 0 where
  pub inside : place ≤ length bytes
  pub short : stated_length (drop place bytes) ≤ max_body
  pub whole : 13 + stated_length (drop place bytes) ≤ length (drop place bytes)
