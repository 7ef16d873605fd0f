-- Only private functions and the private view of a reader cite this: the bytes that were read and not returned yet.
use Rattle.std.specs.Prelude.{◌≡◌, ℕ, ◌+◌, ◌<◌, ◌≤◌, List, ◌∷◌, ◌++◌, length, take, vec_len, vec_capacity, slice_range}
use Rattle.ygm_io.specs.Content.{ExposedBytes, TakenFrom, NothingLeft}
use Rattle.line_input.specs.declared.pieces.Pieces.{Pieces}
use Rattle.line_input.specs.declared.pieces.TheConstants.{READING_SPACE}
use Rattle.line_input.specs.Limits.{max_line}
use Rattle.line_input.specs.Lines.{text_of, LacksLf, StartsTooLong}

-- the bytes of the last piece, without those that were returned
abbrev pub buffered_in : Pieces → List ℕ
buffered_in pieces = slice_range pieces.buffer.items pieces.start pieces.end

-- the bytes that were read and not returned
abbrev pub held_in : Pieces → List ℕ
held_in pieces = pieces.carry.items ++ buffered_in pieces

-- these, followed by the first bytes of the buffer, which were read after them
abbrev pub held_with : ℕ → Pieces → List ℕ
held_with count pieces = held_in pieces ++ take count pieces.buffer.items

-- what holds between two turns
pub record AreOpen (pieces : Pieces) : Type 0 where
  pub space : vec_len pieces.buffer ≡ READING_SPACE
  pub order : pieces.start ≤ pieces.end
  pub within : pieces.end ≤ READING_SPACE
  pub partial : LacksLf pieces.carry.items
  pub short : vec_len pieces.carry ≤ max_line
  pub one_place : 0 < vec_len pieces.carry → pieces.start ≡ pieces.end

-- all that is held is in the carry, which has room for a whole piece more
pub record AreGathered (pieces : Pieces) : Type 0 where
  pub start : pieces.start ≡ 0
  pub end : pieces.end ≡ 0
  pub room : vec_len pieces.carry + READING_SPACE ≤ vec_capacity pieces.carry

-- the bytes are a line of this text, its LF and what follows
pub record StartsWithLine (bytes text rest : List ℕ) : Type 0 where
  pub raw : List ℕ
  pub whole : bytes ≡ raw ++ 10 ∷ rest
  pub partial : LacksLf raw
  pub short : length raw ≤ max_line
  pub text_is : text ≡ text_of raw

-- the bytes are the last line, which no LF ends, and this is its text
pub record AreLastLine (bytes text : List ℕ) : Type 0 where
  pub partial : LacksLf bytes
  pub some : 0 < length bytes
  pub short : length bytes ≤ max_line
  pub text_is : text ≡ text_of bytes

-- the first line of the bytes was taken, and what remains held came in one piece
pub record GaveText (bytes text held : List ℕ) : Type 0 where
  pub line : StartsWithLine bytes text held
  pub bound : length held ≤ READING_SPACE

-- the bytes are held; they have no whole line, and aren't too long
pub record IsPartial (bytes held : List ℕ) : Type 0 where
  pub all : held ≡ bytes
  pub partial : LacksLf held
  pub short : length held ≤ max_line

-- the bytes are held, and begin with a line that is too long, whatever follows
pub record IsTooLong (bytes held : List ℕ) : Type 0 where
  pub all : held ≡ bytes
  pub too_long : (rest : List ℕ) → StartsTooLong (held ++ rest)

-- a read gave this many bytes, at the start of the buffer
pub record GavePiece {S : Type 0} (left : S → ExposedBytes) (faults : S → ℕ) (count : ℕ) (buffer : List ℕ) (before now : S) : Type 0 where
  pub within : count ≤ READING_SPACE
  pub taken : TakenFrom (take count buffer) (left before) (left now)
  pub end : count ≡ 0 → NothingLeft (left before)
  pub faults_unchanged : faults now ≡ faults before
