-- Which lines of a file are bad. `wrong` gives the reason for which a job refuses a raw line, if it does.
use Rattle.std.specs.Prelude.{ℕ, ◌+◌, List, [], ◌∷◌, Option, None, Some, is_some, length, nat_lt, if◌then◌else◌}
use Rattle.std.specs.Option.{option_map, option_or}
use Rattle.line_input.specs.declared.why.LineWhy.{LineWhy}
use Rattle.line_input.specs.declared.why.LineWhy.TheVariants.{TooLong}
use Rattle.line_input.specs.Limits.{max_line}

-- the first bad line: its number, from 1, and why it is bad
abbrev pub first_wrong : (List ℕ → Option LineWhy) → List (List ℕ) → Option (ℕ × LineWhy)
first_wrong wrong [] = None
first_wrong wrong (raw ∷ raws) =
    option_or (option_map (λ why. (1, why)) (wrong raw))
    (option_map (λ found. (found.0 + 1, found.1)) (first_wrong wrong raws))

-- the raw lines before the first bad one
abbrev pub good_lines : (List ℕ → Option LineWhy) → List (List ℕ) → List (List ℕ)
good_lines wrong [] = []
good_lines wrong (raw ∷ raws) = if is_some (wrong raw) then [] else raw ∷ good_lines wrong raws

-- the reason for which tally refuses a raw line: it has too many bytes
abbrev pub tally_wrong : List ℕ → Option LineWhy
tally_wrong raw = if nat_lt max_line (length raw) then Some TooLong else None
