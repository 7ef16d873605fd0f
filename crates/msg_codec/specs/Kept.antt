-- Where a batch keeps its bytes. No public clause cites this module.
use Rattle.std.specs.Prelude.{◌≡◌, ℕ, List, ◌++◌}
use Rattle.msg_codec.specs.declared.encoding.Kept.{Kept}
use Rattle.msg_codec.specs.declared.encoding.Kept.TheVariants.{InMemory, InPlace}
use Rattle.msg_codec.specs.declared.letter.Letter.{Letter}
use Rattle.msg_codec.specs.Placed.{Fits}
use Rattle.msg_codec.specs.Spelling.{spelled_letter}

-- the bytes, wherever they are
abbrev pub kept_bytes : Kept → List ℕ
kept_bytes (InMemory bytes) = bytes.items
kept_bytes (InPlace alloc bytes) = bytes

-- the bytes after the letter's encoding was appended
pub record LetterAppended (old new : List ℕ) (l : Letter) : Type 0 where
  pub bytes : new ≡ old ++ spelled_letter l
  pub fits : Fits l
