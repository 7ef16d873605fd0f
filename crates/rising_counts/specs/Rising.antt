-- Counts that rise one by one and stay at the largest value of their type.
use Rattle.std.specs.Prelude.{ℕ, ◌+◌, ◌-◌, ◌^◌, ◌≤◌, min}

-- the largest value of a count
abbrev pub max_count : ℕ
max_count = 2 ^ 64 - 1

-- the count plus one; the largest count stays
abbrev pub next_count : ℕ → ℕ
next_count count = min (count + 1) max_count

-- the count rose in a call: now it is at least one more than before, or the largest
abbrev pub Rose : ℕ → ℕ → Type 0
Rose before now = next_count before ≤ now
