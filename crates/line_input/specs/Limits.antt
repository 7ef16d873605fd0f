-- The numbers that bound the reading of lines.
use Rattle.std.specs.Prelude.{ℕ}

-- the bytes that a line may have, including a CR and without its LF
abbrev pub max_line : ℕ
max_line = 1000000

-- the bytes that one read asks for
abbrev pub max_piece : ℕ
max_piece = 65536
