-- The lines before the first that is too long.
use Rattle.std.proofs.Common.{◌≡◌, ℕ, ◌+◌, ◌<◌, ◌≤◌, cond, List, [], ◌∷◌, ◌++◌, Some, None, Option, length, refl, ap, sym, ◌∙◌, subst, arith, inl, inr}
use Rattle.std.specs.Option.{option_map}
use Rattle.std.specs.List.{AllByRecursion}
use Rattle.std.proofs.lemmas.Bool.{cases_lt, le-ltb, lt-ltb}
use Rattle.ygm_run.specs.BadLines.{good_lines, tally_wrong}
use Rattle.line_input.specs.Limits.{max_line}
use Rattle.line_input.specs.Lines.{first_too_long, AreShort, IsFirstTooLong}
use Rattle.ygm_run.proofs.Inputs.TallyWrong.{not_refused, refused}
use Rattle.line_input.proofs.Lines.FirstTooLong.{short_of}

-- short lines come before any that is too long
pub good_before : (raws later : List (List ℕ)) → AllByRecursion (λ raw. length raw ≤ max_line) raws → length raws ≤ length (good_lines tally_wrong (raws ++ later))
good_before [] later short = omega arith
good_before (r ∷ raws) later short =
    subst (λ w. length (r ∷ raws) ≤ length w) (sym (ap (λ b. cond b [] (r ∷ good_lines tally_wrong (raws ++ later))) (not_refused r short.0)))
    (omega (arith, good_before raws later short.1))

-- good lines are lines
pub few_good : (raws : List (List ℕ)) → length (good_lines tally_wrong raws) ≤ length raws
few_good [] = omega arith
few_good (raw ∷ raws) = elim (cases_lt max_line (length raw)) [
  | inl long ↦ subst (λ w. length w ≤ length (raw ∷ raws)) (sym (ap (λ b. cond b [] (raw ∷ good_lines tally_wrong raws)) (refused raw long))) (omega arith)
  | inr short ↦ subst (λ w. length w ≤ length (raw ∷ raws)) (sym (ap (λ b. cond b [] (raw ∷ good_lines tally_wrong raws)) (not_refused raw short))) (omega (arith, few_good raws))
]

-- where one less is below each number that a later line may have, one more is below the next
good_next : (raw : List ℕ) (good : List (List ℕ)) (found : Option ℕ) (number : ℕ) → ((before : ℕ) → found ≡ Some before → length good < before) → option_map (λ number. number + 1) found ≡ Some number → length (raw ∷ good) < number
good_next raw good None number below e = absurd cc
good_next raw good (Some before) number below e =
    let f : Some (before + 1) ≡ Some number = e in
    let same : before + 1 ≡ number = cc in
    omega (arith, below before refl, same)

-- those before a bad line are fewer than its number
pub good_below : (raws : List (List ℕ)) (number : ℕ) → first_too_long raws ≡ Some number → length (good_lines tally_wrong raws) < number
good_below [] number e = absurd cc
good_below (raw ∷ raws) number e =
    let later = option_map (λ number. number + 1) (first_too_long raws) in
    elim (cases_lt max_line (length raw)) [
      | inl long ↦
          let first : Some 1 ≡ Some number = sym (ap (λ b. cond b (Some 1) later) (lt-ltb max_line (length raw) long)) ∙ e in
          let is : 1 ≡ number = cc in
          subst (λ w. length w < number) (sym (ap (λ b. cond b [] (raw ∷ good_lines tally_wrong raws)) (refused raw long))) (omega (arith, is))
      | inr short ↦
          subst (λ w. length w < number) (sym (ap (λ b. cond b [] (raw ∷ good_lines tally_wrong raws)) (not_refused raw short)))
          (good_next raw (good_lines tally_wrong raws) (first_too_long raws) number (good_below raws) (sym (ap (λ b. cond b (Some 1) later) (le-ltb max_line (length raw) short)) ∙ e))
    ]

-- the good lines are those before the first that is too long
good_front : (before : List (List ℕ)) (line : List ℕ) (later : List (List ℕ)) → AllByRecursion (λ raw. length raw ≤ max_line) before → max_line < length line → good_lines tally_wrong (before ++ line ∷ later) ≡ before
good_front [] line later short long = ap (λ b. cond b [] (line ∷ good_lines tally_wrong later)) (refused line long)
good_front (raw ∷ before) line later short long =
    ap (λ b. cond b [] (raw ∷ good_lines tally_wrong (before ++ line ∷ later))) (not_refused raw short.0)
    ∙ ap (λ w. raw ∷ w) (good_front before line later short.1 long)

pub good_of_first : (raws : List (List ℕ)) (number : ℕ) (first : IsFirstTooLong raws number) → good_lines tally_wrong raws ≡ first.before
good_of_first raws number first = ap (good_lines tally_wrong) first.parts ∙ good_front first.before first.line first.later (short_of first.before first.short) first.long

all_good : (raws : List (List ℕ)) → AllByRecursion (λ raw. length raw ≤ max_line) raws → good_lines tally_wrong raws ≡ raws
all_good [] short = refl
all_good (raw ∷ raws) short = ap (λ b. cond b [] (raw ∷ good_lines tally_wrong raws)) (not_refused raw short.0) ∙ ap (λ w. raw ∷ w) (all_good raws short.1)

-- all lines are good if none is too long
pub good_of_short : (raws : List (List ℕ)) → AreShort raws → good_lines tally_wrong raws ≡ raws
good_of_short raws short = all_good raws (short_of raws short)
