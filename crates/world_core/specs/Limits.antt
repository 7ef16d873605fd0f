-- The numbers that bound a run.
use Rattle.std.specs.Prelude.{ℕ, ◌^◌}

-- the letters of its own that a rank may put
abbrev pub most_letters : ℕ
most_letters = 2 ^ 56

-- the rounds that a rank may count
abbrev pub most_rounds : ℕ
most_rounds = 2 ^ 56

-- the batches that a link may carry
abbrev pub most_batches : ℕ
most_batches = 2 ^ 62

-- the letters for it that a rank may take: no fewer than all ranks together may put
abbrev pub most_arrived : ℕ
most_arrived = 2 ^ 62

-- data letters have tags below this one
abbrev pub data_tags : ℕ
data_tags = 240
