-- What the ranks of a job are given.
use Rattle.std.specs.Prelude.{ℕ, List, [], flat_map, get_or}
use Rattle.line_input.specs.Lines.{lines_of}

-- what a rank is given: the lines of its file, without their ends
pub record Input : Type 0 where
  pub lines : List (List ℕ)

-- that of a rank without a file
abbrev pub no_input : Input
no_input = record { lines = [] }

-- that of a rank with a file of these bytes
abbrev pub input_of : List ℕ → Input
input_of bytes = record { lines = lines_of bytes }

-- what a rank is given, where the first ranks have files
abbrev pub input_at : List Input → ℕ → Input
input_at inputs rank = get_or inputs rank no_input

-- the lines of all files, one file after another
abbrev pub all_lines : List Input → List (List ℕ)
all_lines inputs = flat_map (λ input. input.lines) inputs
