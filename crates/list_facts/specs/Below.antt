-- Tests on the numbers below another.
use Rattle.std.specs.Prelude.{ℕ, zero, suc, Bool, false, ◌||◌, if◌then◌else◌}

-- some number below n passes
unfoldable pub some_below : (ℕ → Bool) → ℕ → Bool
some_below test zero = false
some_below test (suc n) = some_below test n || test n

abbrev pub one_more : (ℕ → Bool) → ℕ → ℕ
one_more has k = if has k then suc k else k

-- how many numbers pass, from 0 up to the first that doesn't, among those below n
unfoldable pub in_a_row : (ℕ → Bool) → ℕ → ℕ
in_a_row has zero = zero
in_a_row has (suc n) = one_more has (in_a_row has n)
