-- Turns of a reader one after another, and the lines that they return.
use Rattle.std.specs.Prelude.{ℕ, List, [], ◌∷◌, ◌++◌, Ok, Err, ⊤}
use Rattle.ygm_io.specs.Content.{ExposedBytes}
use Rattle.line_input.specs.declared.line_reader.Got.TheVariants.{Line, More, End}
use Rattle.line_input.specs.Reading.{Reading}
use Rattle.line_input.specs.Turns.{TurnResult, Turned}

-- a turn: what it returned, and its reader and its source after it
pub record OneTurn (S : Type 0) : Type 0 where
  pub result : TurnResult
  pub reader : Reading
  pub source : S

-- the turns were taken one after another, the first with this reader and this source
abbrev pub InTurn : {S : Type 0} → (S → ExposedBytes) → (S → ℕ) → Reading → S → List (OneTurn S) → Type 0
InTurn left faults reader source [] = ⊤
InTurn left faults reader source (turn ∷ turns) =
    Turned left faults turn.result reader turn.reader source turn.source × InTurn left faults turn.reader turn.source turns

-- the line that a turn returned, or none
abbrev pub line_in : TurnResult → List (List ℕ)
line_in (Ok (Line line)) = line ∷ []
line_in (Ok More) = []
line_in (Ok End) = []
line_in (Err fault) = []

-- the lines that the turns returned
abbrev pub lines_in : {S : Type 0} → List (OneTurn S) → List (List ℕ)
lines_in [] = []
lines_in (turn ∷ turns) = line_in turn.result ++ lines_in turns
