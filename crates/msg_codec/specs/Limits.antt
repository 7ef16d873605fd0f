-- The number that bounds a letter's body.
use Rattle.std.specs.Prelude.{ℕ}

-- the most bytes that a body may have
abbrev pub max_body : ℕ
max_body = 1048576
