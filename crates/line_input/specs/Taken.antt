-- Only proofs and private functions cite this: the raw lines that were taken from what was to come.
use Rattle.std.specs.Prelude.{◌≡◌, ℕ, List, ◌++◌, Some}
use Rattle.ygm_io.specs.Content.{ExposedBytes, TakenFrom}
use Rattle.line_input.specs.Lines.{raw_lines}
use Rattle.line_input.specs.Turns.{RawLineTaken}

-- These raw lines were taken, the first ones. They come before the raw lines of any prefix of what is still to come.
pub record LinesTaken (raws : List (List ℕ)) (before now : ExposedBytes) : Type 0 where
  pub bytes : List ℕ
  pub taken : TakenFrom bytes before now
  pub lines : (prefix later : List ℕ) → now ≡ Some (prefix ++ later) → raw_lines (bytes ++ prefix) ≡ raws ++ raw_lines prefix

-- a line is to come that isn't too long
abbrev pub HasLine : ExposedBytes → Type 0
HasLine bytes = (text : List ℕ) × (rest : ExposedBytes) × RawLineTaken text bytes rest
