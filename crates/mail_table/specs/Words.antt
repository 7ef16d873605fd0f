-- Only private functions cite this module: which word of a table is which, and which slots a link has.
use Rattle.std.specs.Prelude.{ℕ, ◌+◌, ◌*◌, ◌%◌}
use Rattle.ygm_route.specs.Layout.{max_ranks}

-- ---- words

abbrev pub stop_word : ℕ
stop_word = 0

-- Each rank writes the words of a row of its own. After them the row has 16 more, 128 bytes, so that words of different
-- rows don't share a cache line.
abbrev pub row_len : ℕ
row_len = 2 * max_ranks + 16

-- where the row of a rank begins; before all rows there are as many words for the stop
abbrev pub row : ℕ → ℕ
row rank = (rank + 1) * row_len

-- A rank writes the tail words of the links that it puts into, and the head words of those that it takes from.
abbrev pub tail_at : ℕ → ℕ → ℕ
tail_at from to = row from + to

abbrev pub head_at : ℕ → ℕ → ℕ
head_at from to = row to + max_ranks + from

abbrev pub words_of : ℕ → ℕ
words_of ranks = row ranks

-- ---- slots

-- the place of a link among the links of so many ranks
abbrev pub place : ℕ → ℕ → ℕ → ℕ
place ranks from to = from * ranks + to

-- the first slot of a link
abbrev pub base : ℕ → ℕ → ℕ → ℕ → ℕ
base ranks ring from to = place ranks from to * ring

-- the slot of a link's batch number t
abbrev pub slot_at : ℕ → ℕ → ℕ → ℕ → ℕ → ℕ
slot_at ranks ring from to t = base ranks ring from to + t % ring

abbrev pub slots_of : ℕ → ℕ → ℕ
slots_of ranks ring = ranks * ranks * ring
