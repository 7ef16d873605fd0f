-- Only private functions cite this: the lines that were read of a file, and how its reading ended.
use Rattle.std.specs.Prelude.{◌≡◌, ℕ, ◌+◌, ◌<◌, ◌≤◌, List, [], ◌++◌, Option, None, Some, IfSome, length}
use Rattle.std.specs.List.{AllByRecursion}
use Rattle.ygm_io.specs.Content.{ExposedBytes, TakenFrom, NothingLeft}
use Rattle.world_core.specs.Limits.{most_letters}
use Rattle.ygm_run.specs.declared.status.InputFault.{InputFault}
use Rattle.ygm_run.specs.declared.status.InputFault.TheVariants.{Read, Bad}
use Rattle.line_input.specs.declared.why.LineWhy.{LineWhy}
use Rattle.line_input.specs.declared.why.LineWhy.TheVariants.{TooLong}
use Rattle.ygm_run.specs.BadLines.{first_wrong, tally_wrong}
use Rattle.line_input.specs.Limits.{max_line, max_piece}
use Rattle.line_input.specs.Lines.{LacksLf, StartsTooLong, lines_of, raw_lines}
use Rattle.line_input.specs.Reading.{Reading}
use Rattle.line_input.specs.Turns.{PieceAppended, to_come}
use Rattle.line_input.specs.Taken.{LinesTaken}

-- These raw lines of a file were read, its first ones, and none is too long. `content` is what the file had at first, and
-- `left` what remains of it.
pub record HasReadLines (content : ExposedBytes) (reader : Reading) (left : ExposedBytes) (raws : List (List ℕ)) : Type 0 where
  pub taken : LinesTaken raws content (to_come reader.held left)
  pub short : AllByRecursion (λ raw. length raw ≤ max_line) raws
  pub given : reader.given ≡ length raws

-- Why the reading of a file ended: all of it was read, a read failed while no bad line was held, or the last piece made the
-- next line too long. `faults` is the count of faults of its source, which was 0 at first.
abbrev pub EndedWith : Option InputFault → Reading → ExposedBytes → ℕ → Type 0
EndedWith None reader left faults = (reader.held ≡ []) × NothingLeft left × (faults ≡ 0)
EndedWith (Some Read) reader left faults = (0 < faults) × LacksLf reader.held × (length reader.held ≤ max_line)
EndedWith (Some (Bad line why)) reader left faults =
    IfSome (to_come reader.held left) StartsTooLong × (why ≡ TooLong) × (line ≡ reader.given + 1) × (faults ≡ 0)
    × (before : List ℕ) × PieceAppended before reader.held

-- What was read before the piece that made a line bad has no bad line, and nothing was read after that piece.
abbrev pub StopsAtPiece : ExposedBytes → ExposedBytes → Option InputFault → Type 0
StopsAtPiece content left fault = (line : ℕ) (why : LineWhy) → fault ≡ Some (Bad line why) → (prefix piece : List ℕ)
    × (length piece ≤ max_piece) × TakenFrom (prefix ++ piece) content left × (first_wrong tally_wrong (raw_lines prefix) ≡ None)

-- A count of letters is full at this limit, by the lines of a file: it has more lines than a rank may send letters.
pub record IsFullFile (content : ExposedBytes) (limit : ℕ) : Type 0 where
  pub limit_is : limit ≡ most_letters
  pub lines : IfSome content (λ bytes. most_letters < length (lines_of bytes))
