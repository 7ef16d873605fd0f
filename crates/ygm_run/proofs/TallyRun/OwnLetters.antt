-- The letters of lines count them: at the rank that owns an item all its lines are counted.
use Rattle.std.proofs.Common.{◌≡◌, inl, inr, ℕ, ◌+◌, ◌<◌, ◌≤◌, eqb, Bool, true, false, cond, List, [], ◌∷◌, All, map, length, Option, Some, sum_by, bytes_eq, refl, sym, ap, subst, ◌∙◌, arith}
use Rattle.std.specs.Prelude.{IsSomeAnd}
use Rattle.std.specs.List.{AllByRecursion, filter}
use Rattle.std.proofs.lemmas.List.Elements.{All-from_recursion, recursion_from_All}
use Rattle.std.proofs.lemmas.List.Sums.{sum_by-cons}
use Rattle.list_facts.proofs.Equal.{bytes_eq-other, cases_same}
use Rattle.counting_set.specs.Counting.{AddsSome, add_letter, adds, adds_of, share}
use Rattle.part_hash.specs.Owner.{owner_of_key}
use Rattle.counting_set.proofs.Counts.Inserts.{add_letter_adds}
use Rattle.line_input.specs.Limits.{max_line}
use Rattle.ygm_run.specs.TallyRun.{CountLines, own_letters}
use Rattle.ygm_run.specs.TallyText.{times}
use Rattle.ygm_run.proofs.TallyText.Times.{times-cons}

-- the line isn't too long
abbrev pub IsShort : List ℕ → Type 0
IsShort line = length line ≤ max_line

adds_line : (to from : ℕ) (line : List ℕ) → IsShort line → adds (add_letter to from line) ≡ Some (line, 1)
adds_line to from line short = add_letter_adds to from line (omega (arith, short))

-- ---- each letter adds one

adds_some : (to from : ℕ) (line : List ℕ) → IsShort line → AddsSome (add_letter to from line)
adds_some to from line short =
    let some : 0 < 1 = omega arith in
    subst (λ (o : Option (List ℕ × ℕ)). IsSomeAnd o (λ one. 0 < one.1)) (sym (adds_line to from line short)) some

one_more : (to from : ℕ) (line : List ℕ) (lines : List (List ℕ)) (b : Bool) → IsShort line → AllByRecursion AddsSome (map (add_letter to from) lines)
    → AllByRecursion AddsSome (map (add_letter to from) (cond b (line ∷ lines) lines))
one_more to from line lines true short h = (adds_some to from line short, h)
one_more to from line lines false short h = h

each_adds : (ranks from to : ℕ) (lines : List (List ℕ)) → AllByRecursion IsShort lines → AllByRecursion AddsSome (own_letters ranks from lines to)
each_adds ranks from to [] short = tt
each_adds ranks from to (line ∷ lines) short =
    one_more to from line (filter (λ y. eqb (owner_of_key y ranks) to) lines) (eqb (owner_of_key line ranks) to) short.0 (each_adds ranks from to lines short.1)

-- ---- what they add up to

abbrev one_if_same : List ℕ → List ℕ → ℕ
one_if_same item line = cond (bytes_eq item line) 1 0

-- a number where a test is true
abbrev only_if : Bool → ℕ → ℕ
only_if b n = cond b n 0

-- the letter of a line that another rank owns isn't there
sum_one : (item : List ℕ) (to from : ℕ) (line : List ℕ) (lines : List (List ℕ)) (b : Bool) → IsShort line
    → sum_by (adds_of item) (map (add_letter to from) (cond b (line ∷ lines) lines)) ≡ only_if b (one_if_same item line) + sum_by (adds_of item) (map (add_letter to from) lines)
sum_one item to from line lines true short =
    sum_by-cons (adds_of item) (add_letter to from line) (map (add_letter to from) lines)
    ∙ ap (λ o. share item o + sum_by (adds_of item) (map (add_letter to from) lines)) (adds_line to from line short)
sum_one item to from line lines false short = omega arith

split : (b : Bool) (one rest : ℕ) → only_if b one + only_if b rest ≡ only_if b (one + rest)
split true one rest = refl
split false one rest = omega arith

none : (b : Bool) → only_if b 0 ≡ 0
none true = refl
none false = refl

-- a line that equals an item has the item's owner
same_owner : (item line : List ℕ) (ranks to : ℕ) → only_if (eqb (owner_of_key line ranks) to) (one_if_same item line) ≡ only_if (eqb (owner_of_key item ranks) to) (one_if_same item line)
same_owner item line ranks to =
    elim (cases_same item line) [
      | inl same ↦ ap (λ y. only_if (eqb (owner_of_key y ranks) to) (one_if_same item line)) (sym same)
      | inr other ↦
          rw (bytes_eq-other item line other) (none (eqb (owner_of_key line ranks) to) ∙ sym (none (eqb (owner_of_key item ranks) to)))
    ]

sums_of_lines : (item : List ℕ) (ranks from to : ℕ) (lines : List (List ℕ)) → AllByRecursion IsShort lines
    → sum_by (adds_of item) (own_letters ranks from lines to) ≡ only_if (eqb (owner_of_key item ranks) to) (times item lines)
sums_of_lines item ranks from to [] short = sym (none (eqb (owner_of_key item ranks) to))
sums_of_lines item ranks from to (line ∷ lines) short =
    let mine = eqb (owner_of_key item ranks) to in
    let one : ℕ = one_if_same item line in
    sum_one item to from line (filter (λ y. eqb (owner_of_key y ranks) to) lines) (eqb (owner_of_key line ranks) to) short.0
    ∙ ap (λ n. n + sum_by (adds_of item) (own_letters ranks from lines to)) (same_owner item line ranks to)
    ∙ ap (λ n. only_if mine one + n) (sums_of_lines item ranks from to lines short.1)
    ∙ split mine one (times item lines)
    ∙ ap (only_if mine) (sym (times-cons item line lines))

-- the letters of short lines count them
pub own_letters_count : (ranks here : ℕ) (lines : List (List ℕ)) → All IsShort lines → CountLines ranks lines (own_letters ranks here lines)
own_letters_count ranks here lines short =
    let each = recursion_from_All IsShort lines short in
    record {
      adds = λ to t. All-from_recursion AddsSome (own_letters ranks here lines to) (each_adds ranks here to lines each);
      sums = λ to item t. sums_of_lines item ranks here to lines each;
    }
