-- What a turn of a reader returns, what is to come before and after it, and the outcomes of a turn.
use Rattle.std.specs.Prelude.{◌≡◌, ◌⊎◌, ℕ, ◌++◌, List, [], ◌∷◌, length, ◌<◌, ◌≤◌, Bool, true, false, is_some, Option, IfSome, Some, Result, Ok, Err, ⊤}
use Rattle.std.specs.Option.{option_map}
use Rattle.rising_counts.specs.Rising.{next_count}
use Rattle.ygm_io.specs.Content.{CallFailed, ExposedBytes, TakenFrom, NothingLeft}
use Rattle.line_input.specs.declared.line_reader.Got.{Got}
use Rattle.line_input.specs.declared.line_reader.Got.TheVariants.{Line, More, End}
use Rattle.line_input.specs.declared.line_reader.LineFault.{LineFault}
use Rattle.line_input.specs.declared.line_reader.LineFault.TheVariants.{ReadFault, LineTooLong, NoMemory}
use Rattle.line_input.specs.Limits.{max_line, max_piece}
use Rattle.line_input.specs.Lines.{lines_of, text_of, LacksLf, StartsTooLong}
use Rattle.line_input.specs.Reading.{Reading}

-- what a turn returns
abbrev pub TurnResult : Type 0
TurnResult = Result Got LineFault

-- ---- what is to come

-- the bytes held, followed by those that remain in the source
abbrev pub to_come : List ℕ → ExposedBytes → ExposedBytes
to_come held left = option_map (λ rest. held ++ rest) left

-- the lines of these bytes, where they are exposed
abbrev pub lines_to_come : List ℕ → ExposedBytes → Option (List (List ℕ))
lines_to_come held left = option_map (λ rest. lines_of (held ++ rest)) left

-- the first of the lines before is gone
abbrev pub FirstTaken : List ℕ → Option (List (List ℕ)) → Option (List (List ℕ)) → Type 0
FirstTaken line before now = before ≡ option_map (λ lines. line ∷ lines) now

-- the raw line came first, followed by its LF, or was all that was to come
abbrev pub CutOff : List ℕ → ExposedBytes → ExposedBytes → Type 0
CutOff raw before now = TakenFrom (raw ++ 10 ∷ []) before now ⊎ ((0 < length raw) × TakenFrom raw before now × NothingLeft now)

-- a raw line of this text was taken from the bytes to come, and wasn't too long
pub record RawLineTaken (text : List ℕ) (before now : ExposedBytes) : Type 0 where
  pub raw : List ℕ
  pub text_is : text ≡ text_of raw
  pub short : length raw ≤ max_line
  pub partial : LacksLf raw
  pub cut : CutOff raw before now

-- at most one piece was taken, a prefix of what remained
abbrev pub PieceTaken : ExposedBytes → ExposedBytes → Type 0
PieceTaken before now = (piece : List ℕ) × TakenFrom piece before now × (length piece ≤ max_piece)

-- a piece was appended to bytes that have no LF and aren't too long
pub record PieceAppended (before now : List ℕ) : Type 0 where
  pub piece : List ℕ
  pub appended : now ≡ before ++ piece
  pub one : length piece ≤ max_piece
  pub partial : LacksLf before
  pub short : length before ≤ max_line

-- ---- the outcomes of a turn, from the reader and its source before and after it

-- A line was returned. If the source exposes its bytes, it is the next line.
pub record GaveLine {S : Type 0} (left : S → ExposedBytes) (text : List ℕ) (old new : Reading) (before now : S) : Type 0 where
  pub line : FirstTaken text (lines_to_come old.held (left before)) (lines_to_come new.held (left now))
  pub raw_line : RawLineTaken text (to_come old.held (left before)) (to_come new.held (left now))
  pub counted : new.given ≡ next_count old.given
  pub at_most_a_piece : length new.held ≤ max_piece

-- No line was returned, and no byte was lost or repeated.
pub record LostNothing {S : Type 0} (left : S → ExposedBytes) (old new : Reading) (before now : S) : Type 0 where
  pub to_come_unchanged : to_come new.held (left now) ≡ to_come old.held (left before)
  pub count_unchanged : new.given ≡ old.given

-- The read gave bytes, and no line is whole yet.
pub record ReadMore {S : Type 0} (left : S → ExposedBytes) (old new : Reading) (before now : S) : Type 0 where
  pub nothing_lost : LostNothing left old new before now
  pub more : length old.held < length new.held
  pub partial : LacksLf new.held
  pub short : length new.held ≤ max_line

-- The source ended, and every line was returned.
pub record MetEnd {S : Type 0} (left : S → ExposedBytes) (old new : Reading) (before now : S) : Type 0 where
  pub nothing_lost : LostNothing left old new before now
  pub nothing_held : (old.held ≡ []) × (new.held ≡ [])
  pub nothing_to_come : NothingLeft (to_come old.held (left before))

-- The next line, which has this number, is too long. It became so by the piece that this turn read.
pub record MetTooLong {S : Type 0} (left : S → ExposedBytes) (number : ℕ) (old new : Reading) (before now : S) : Type 0 where
  pub nothing_lost : LostNothing left old new before now
  pub held_too_long : StartsTooLong new.held
  pub to_come_too_long : IfSome (to_come old.held (left before)) StartsTooLong
  pub by_a_piece : PieceAppended old.held new.held
  pub number_is : number ≡ next_count old.given

-- The read failed. What is held has no whole line, and isn't too long.
pub record ReadFailed {S : Type 0} (left : S → ExposedBytes) (faults : S → ℕ) (old new : Reading) (before now : S) : Type 0 where
  pub nothing_lost : LostNothing left old new before now
  pub failed : CallFailed (left before) (left now) (faults before) (faults now)
  pub partial : LacksLf new.held
  pub short : length new.held ≤ max_line

-- Memory ran out before the read, and nothing changed.
pub record ChangedNothing {S : Type 0} (old new : Reading) (before now : S) : Type 0 where
  pub same_reader : new ≡ old
  pub same_source : now ≡ before

-- what a turn with this result did
abbrev pub Turned : {S : Type 0} → (S → ExposedBytes) → (S → ℕ) → TurnResult → Reading → Reading → S → S → Type 0
Turned left faults (Ok (Line text)) old new before now = GaveLine left text old new before now
Turned left faults (Ok More) old new before now = ReadMore left old new before now
Turned left faults (Ok End) old new before now = MetEnd left old new before now
Turned left faults (Err ReadFault) old new before now = ReadFailed left faults old new before now
Turned left faults (Err (LineTooLong number)) old new before now = MetTooLong left number old new before now
Turned left faults (Err NoMemory) old new before now = ChangedNothing old new before now

-- ---- what each turn does

-- a fact unless a read failed
abbrev pub UnlessReadFault : TurnResult → Type 0 → Type 0
UnlessReadFault (Ok got) P = P
UnlessReadFault (Err ReadFault) P = ⊤
UnlessReadFault (Err (LineTooLong number)) P = P
UnlessReadFault (Err NoMemory) P = P

-- whether there is no other turn
abbrev pub is_last : TurnResult → Bool
is_last (Ok (Line line)) = false
is_last (Ok More) = false
is_last (Ok End) = true
is_last (Err ReadFault) = true
is_last (Err (LineTooLong number)) = true
is_last (Err NoMemory) = false

-- the end, a failed read or lack of memory
abbrev pub EndsOrFails : TurnResult → Type 0
EndsOrFails (Ok (Line line)) = ⊥
EndsOrFails (Ok More) = ⊥
EndsOrFails (Ok End) = ⊤
EndsOrFails (Err ReadFault) = ⊤
EndsOrFails (Err (LineTooLong number)) = ⊥
EndsOrFails (Err NoMemory) = ⊤

-- what holds after each turn
pub record TookTurn {S : Type 0} (left : S → ExposedBytes) (faults : S → ℕ) (result : TurnResult) (old new : Reading) (before now : S) : Type 0 where
  -- where nothing is to come, the result is the end, a failed read or lack of memory
  pub end_if_nothing_to_come : to_come old.held (left before) ≡ Some [] → EndsOrFails result
  pub faults_unchanged : UnlessReadFault result (faults now ≡ faults before)
  pub never_falls : faults before ≤ faults now
  pub done : new.done ≡ is_last result
  -- at most one piece was taken, a prefix of what remained
  pub one_piece : PieceTaken (left before) (left now)
  pub exposed : is_some (left now) ≡ is_some (left before)
