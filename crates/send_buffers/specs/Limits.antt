-- The numbers that bound the bytes of a batch.
use Rattle.std.specs.Prelude.{ℕ}

-- the fewest and the most bytes that a batch may be limited to
abbrev pub min_buffer : ℕ
min_buffer = 64

abbrev pub max_buffer : ℕ
max_buffer = 65536
