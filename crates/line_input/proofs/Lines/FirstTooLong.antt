-- The first line that is too long.
use Rattle.std.proofs.Common.{◌≡◌, ℕ, ◌+◌, ◌<◌, ◌≤◌, cond, List, [], ◌∷◌, ◌++◌, Some, None, Option, length, refl, ap, sym, ◌∙◌, arith, inl, inr}
use Rattle.std.specs.Option.{option_map}
use Rattle.std.specs.List.{AllByRecursion}
use Rattle.std.proofs.lemmas.Bool.{cases_lt, le-ltb, lt-ltb}
use Rattle.line_input.specs.Limits.{max_line}
use Rattle.line_input.specs.Lines.{first_too_long, AreShort, IsFirstTooLong}
use Rattle.std.proofs.lemmas.List.Elements.{All-cons, All-from_recursion, All-nil, recursion_from_All}

-- of short lines none is too long
pub none_too_long_of : (raws : List (List ℕ)) → AllByRecursion (λ raw. length raw ≤ max_line) raws → first_too_long raws ≡ None
none_too_long_of [] short = refl
none_too_long_of (r ∷ raws) short =
    ap (λ b. cond b (Some 1) (option_map (λ number. number + 1) (first_too_long raws))) (le-ltb max_line (length r) short.0)
    ∙ ap (option_map (λ number. number + 1)) (none_too_long_of raws short.1)

-- after short lines, the first that is too long has the next number
pub later_too_long : (raws later : List (List ℕ)) → AllByRecursion (λ raw. length raw ≤ max_line) raws → first_too_long later ≡ Some 1 → first_too_long (raws ++ later) ≡ Some (length raws + 1)
later_too_long [] later short long = long
later_too_long (r ∷ raws) later short long =
    ap (λ b. cond b (Some 1) (option_map (λ number. number + 1) (first_too_long (raws ++ later)))) (le-ltb max_line (length r) short.0)
    ∙ ap (option_map (λ number. number + 1)) (later_too_long raws later short.1 long)
    ∙ ap Some (let e : length raws + 1 + 1 ≡ length (r ∷ raws) + 1 = omega arith in e)

pub short_of : (raws : List (List ℕ)) → AreShort raws → AllByRecursion (λ raw. length raw ≤ max_line) raws
short_of raws short = recursion_from_All (λ raw. length raw ≤ max_line) raws short

-- a line that is too long, the first
pub at_long : (raw : List ℕ) (raws : List (List ℕ)) → max_line < length raw → first_too_long (raw ∷ raws) ≡ Some 1
at_long raw raws long = ap (λ b. cond b (Some 1) (option_map (λ number. number + 1) (first_too_long raws))) (lt-ltb max_line (length raw) long)

-- after a short line, each number is one more
pub after_short : (raw : List ℕ) (raws : List (List ℕ)) → length raw ≤ max_line → first_too_long (raw ∷ raws) ≡ option_map (λ number. number + 1) (first_too_long raws)
after_short raw raws short = ap (λ b. cond b (Some 1) (option_map (λ number. number + 1) (first_too_long raws))) (le-ltb max_line (length raw) short)

-- a short line put before
one_before : (raw : List ℕ) (raws : List (List ℕ)) (found : Option ℕ) (number : ℕ) → length raw ≤ max_line → ((n : ℕ) → found ≡ Some n → IsFirstTooLong raws n) → option_map (λ number. number + 1) found ≡ Some number
    → IsFirstTooLong (raw ∷ raws) number
one_before raw raws None number short first e = absurd cc
one_before raw raws (Some n) number short first e =
    let rest = first n refl in
    let f : Some (n + 1) ≡ Some number = e in
    let is : n + 1 ≡ number = cc in record {
      before = raw ∷ rest.before;
      line = rest.line;
      later = rest.later;
      parts = ap (λ w. raw ∷ w) rest.parts;
      short = All-cons (λ raw. length raw ≤ max_line) raw rest.before short rest.short;
      long = rest.long;
      number_is = omega (arith, is, rest.number_is);
    }

-- the number is that of the first
pub first_of_number : (raws : List (List ℕ)) (number : ℕ) → first_too_long raws ≡ Some number → IsFirstTooLong raws number
first_of_number [] number e = absurd cc
first_of_number (raw ∷ raws) number e = elim (cases_lt max_line (length raw)) [
  | inl long ↦
      let f : Some 1 ≡ Some number = sym (at_long raw raws long) ∙ e in
      let is : 1 ≡ number = cc in record {
        before = [];
        line = raw;
        later = raws;
        parts = refl;
        short = All-nil (λ raw. length raw ≤ max_line);
        long = long;
        number_is = omega (arith, is);
      }
  | inr short ↦ one_before raw raws (first_too_long raws) number short (first_of_number raws) (sym (after_short raw raws short) ∙ e)
]

pub number_of_first : (raws : List (List ℕ)) (number : ℕ) → IsFirstTooLong raws number → first_too_long raws ≡ Some number
number_of_first raws number first =
    ap first_too_long first.parts
    ∙ later_too_long first.before (first.line ∷ first.later) (short_of first.before first.short) (at_long first.line first.later first.long)
    ∙ ap Some (sym first.number_is)

none_of_more : (found : Option ℕ) → option_map (λ number. number + 1) found ≡ None → found ≡ None
none_of_more None e = refl
none_of_more (Some n) e = absurd (let f : Some (n + 1) ≡ None = e in cc)

short_by_recursion : (raws : List (List ℕ)) → first_too_long raws ≡ None → AllByRecursion (λ raw. length raw ≤ max_line) raws
short_by_recursion [] e = tt
short_by_recursion (raw ∷ raws) e = elim (cases_lt max_line (length raw)) [
  | inl long ↦ absurd (let f : Some 1 ≡ None = sym (at_long raw raws long) ∙ e in cc)
  | inr short ↦ (short, short_by_recursion raws (none_of_more (first_too_long raws) (sym (after_short raw raws short) ∙ e)))
]

pub short_of_none : (raws : List (List ℕ)) → first_too_long raws ≡ None → AreShort raws
short_of_none raws e = All-from_recursion (λ raw. length raw ≤ max_line) raws (short_by_recursion raws e)

pub none_of_short : (raws : List (List ℕ)) → AreShort raws → first_too_long raws ≡ None
none_of_short raws short = none_too_long_of raws (short_of raws short)
