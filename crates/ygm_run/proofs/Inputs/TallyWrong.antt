-- The lines that tally refuses are those that are too long.
use Rattle.std.proofs.Common.{◌≡◌, ℕ, ◌+◌, ◌<◌, ◌≤◌, true, false, cond, List, [], ◌∷◌, Some, None, Option, is_some, length, refl, ap, sym, ◌∙◌, inl, inr}
use Rattle.std.specs.Option.{option_map, option_or}
use Rattle.std.proofs.lemmas.Bool.{cases_lt, le-ltb, lt-ltb}
use Rattle.line_input.specs.declared.why.LineWhy.{LineWhy}
use Rattle.line_input.specs.declared.why.LineWhy.TheVariants.{TooLong}
use Rattle.ygm_run.specs.BadLines.{first_wrong, tally_wrong}
use Rattle.line_input.specs.Limits.{max_line}
use Rattle.line_input.specs.Lines.{first_too_long}
use Rattle.line_input.proofs.Lines.FirstTooLong.{at_long, after_short}

wrong_of_long : (raw : List ℕ) → max_line < length raw → tally_wrong raw ≡ Some TooLong
wrong_of_long raw long = ap (λ b. cond b (Some TooLong) None) (lt-ltb max_line (length raw) long)

fine_of_short : (raw : List ℕ) → length raw ≤ max_line → tally_wrong raw ≡ None
fine_of_short raw short = ap (λ b. cond b (Some TooLong) None) (le-ltb max_line (length raw) short)

-- a line that is too long is refused
pub refused : (raw : List ℕ) → max_line < length raw → is_some (tally_wrong raw) ≡ true
refused raw long = ap is_some (wrong_of_long raw long)

-- any other line isn't
pub not_refused : (raw : List ℕ) → length raw ≤ max_line → is_some (tally_wrong raw) ≡ false
not_refused raw short = ap is_some (fine_of_short raw short)

-- with the reason of tally
abbrev pub too_long_at : ℕ → ℕ × LineWhy
too_long_at number = (number, TooLong)

-- a bad line at the front
abbrev first_line : LineWhy → ℕ × LineWhy
first_line why = (1, why)

-- the same line, after one more
abbrev next_line : ℕ × LineWhy → ℕ × LineWhy
next_line line = (line.0 + 1, line.1)

one_more : (found : Option ℕ) → option_map next_line (option_map too_long_at found) ≡ option_map too_long_at (option_map (λ number. number + 1) found)
one_more None = refl
one_more (Some number) = refl

-- the first bad line of tally is the first that is too long
pub first_wrong_of : (raws : List (List ℕ)) → first_wrong tally_wrong raws ≡ option_map too_long_at (first_too_long raws)
first_wrong_of [] = refl
first_wrong_of (raw ∷ raws) = elim (cases_lt max_line (length raw)) [
  | inl long ↦
      ap (λ (why : Option LineWhy). option_or (option_map first_line why) (option_map next_line (first_wrong tally_wrong raws))) (wrong_of_long raw long)
      ∙ sym (ap (option_map too_long_at) (at_long raw raws long))
  | inr short ↦
      ap (λ (why : Option LineWhy). option_or (option_map first_line why) (option_map next_line (first_wrong tally_wrong raws))) (fine_of_short raw short)
      ∙ ap (option_map next_line) (first_wrong_of raws) ∙ one_more (first_too_long raws)
      ∙ sym (ap (option_map too_long_at) (after_short raw raws short))
]

-- where no line is too long, none is bad
pub none_wrong : (raws : List (List ℕ)) → first_too_long raws ≡ None → first_wrong tally_wrong raws ≡ None
none_wrong raws none = first_wrong_of raws ∙ ap (option_map too_long_at) none
