-- What is there after adds: each item to which they add, once, with the sum of what they add to it.
use Rattle.std.proofs.Common.{◌≡◌, ◌≢◌, ◌↔◌, inl, inr, ℕ, suc, zero, ◌^◌, ◌<◌, List, [], ◌∷◌, map, length, Option, None, Some, All, Contains, sum_by, slice_index_or, refl, sym, ap, subst, ◌∙◌, arith}
use Rattle.std.specs.Prelude.{IfSome, bytes_eq}
use Rattle.std.specs.List.{AllByRecursion}
use Rattle.std.proofs.lemmas.List.Sums.{sum_by-cons}
use Rattle.std.proofs.lemmas.List.Elements.{All-from_recursion}
use Rattle.list_facts.proofs.Equal.{bytes_eq-other, bytes_eq-same, cases_same}
use Rattle.list_facts.proofs.Sums.{sum_by-map}
use Rattle.msg_codec.specs.Bytes.{AreBytes}
use Rattle.msg_codec.specs.declared.letter.Letter.{Letter}
use Rattle.comm_rank.specs.Fold.{fold_from}
use Rattle.counting_set.specs.Counting.{Counts, added, adds, adds_of, capped, share, count_in, counting_apply, AddsNoZero, HasCounts}
use Rattle.counting_set.proofs.Counts.After.{after, fold-after}
use Rattle.counting_set.proofs.Counts.CountIn.{count_in-first, count_in-later}
use Rattle.counting_set.proofs.Counts.Distinct.{IsOther, Distinct, distinct-after, pairs_distinct}
use Rattle.counting_set.proofs.Counts.Sums.{Fits64, count_in-after, counts_are_sums}

-- ---- no count is 0

abbrev pub IsThere : List ℕ × ℕ → Type 0
IsThere pair = 0 < pair.1

pub there-added : (x : List ℕ) (c : ℕ) (es : Counts) → 0 < c → AllByRecursion IsThere es → AllByRecursion IsThere (added x c es)
there-added x c [] lt h = (lt, tt)
there-added x c (e ∷ es) lt h =
    elim (cases_same x e.0) [
      | inl same ↦ rw (ap (λ k. bytes_eq x k) (sym same) ∙ bytes_eq-same x) (omega (arith, lt), h.1)
      | inr other ↦ rw (bytes_eq-other x e.0 other) (h.0, there-added x c es lt h.1)
    ]

-- no add is of 0
abbrev pub AllAdd : List (Option (List ℕ × ℕ)) → Type 0
AllAdd os = AllByRecursion (λ o. IfSome o IsThere) os

pub there-after : (os : List (Option (List ℕ × ℕ))) (es : Counts) → AllAdd os → AllByRecursion IsThere es → AllByRecursion IsThere (after es os)
there-after [] es h t = t
there-after (None ∷ os) es h t = there-after os es h.1 t
there-after (Some one ∷ os) es h t = there-after os (added one.0 one.1 es) h.1 (there-added one.0 one.1 es h.0 t)

all_add : (letters : List Letter) → All AddsNoZero letters → AllAdd (map adds letters)
all_add [] h = tt
all_add (l ∷ ls) h = (h 0 l (omega arith), all_add ls (λ k d lt. h (suc k) d (omega (arith, lt))))

-- ---- an item that is there, and its count

-- an item is there with its count alone
pub count_if_there : (x : List ℕ) (c : ℕ) (es : Counts) → Distinct es → (k : ℕ) → k < length es → slice_index_or es k (x, c) ≡ (x, c) → c ≡ count_in es x
count_if_there x c [] h k lt at = absurd (omega (arith, lt))
count_if_there x c (e ∷ es) h zero lt at =
    let is : e ≡ (x, c) = at in
    sym (ap (λ p. count_in (p ∷ es) x) is ∙ count_in-first x c es)
count_if_there x c (e ∷ es) h (suc k) lt at =
    let within : k < length es = omega (arith, lt) in
    let apart : e.0 ≢ x = subst (IsOther e) at (All-from_recursion (IsOther e) es h.0 k (x, c) within) in
    count_if_there x c es h.1 k within at ∙ sym (count_in-later x e.0 e.1 es (λ j. apart (sym j)))

-- an item that has a count is there
pub there_if_counted : (x : List ℕ) (c : ℕ) (es : Counts) → c ≡ count_in es x → 0 < c → Contains es (x, c)
there_if_counted x c [] is lt = absurd (omega (arith, is, lt))
there_if_counted x c (e ∷ es) is lt =
    elim (cases_same x e.0) [
      | inl same ↦
          let own : count_in (e ∷ es) x ≡ e.1 = rw (ap (λ k. bytes_eq x k) (sym same) ∙ bytes_eq-same x) refl in
          let number : e.1 ≡ c = sym own ∙ sym is in
          let pair : e ≡ (x, c) = λ j. (sym same j, number j) in
          (0, omega arith, pair)
      | inr other ↦
          let rest = there_if_counted x c es (is ∙ count_in-later x e.0 e.1 es other) lt in
          (suc rest.0, omega (arith, rest.1), rest.2)
    ]

pub has_counts : (es : Counts) (count_of : List ℕ → ℕ) → Distinct es → AllByRecursion IsThere es → ((x : List ℕ) → count_in es x ≡ count_of x) → HasCounts es count_of
has_counts es count_of h t counts = record {
  distinct = pairs_distinct es h;
  counted = λ x c. (
    λ there. (
      count_if_there x c es h there.0 there.1 there.2 ∙ counts x,
      subst IsThere there.2 (All-from_recursion IsThere es t there.0 (x, c) there.1),
    ),
    λ is. there_if_counted x c es (is.0 ∙ sym (counts x)) is.1,
  );
}

-- ---- adds below the limit

-- where sums fit a count, each add does
fit_if_sums_do : (os : List (Option (List ℕ × ℕ))) → ((x : List ℕ) → sum_by (share x) os < 2 ^ 64) → AllByRecursion (λ o. IfSome o Fits64) os
fit_if_sums_do [] few = tt
fit_if_sums_do (None ∷ os) few = (tt, fit_if_sums_do os (λ x. omega (arith, few x, sum_by-cons (share x) None os)))
fit_if_sums_do (Some one ∷ os) few =
    let own : share one.0 (Some one) ≡ one.1 = rw (bytes_eq-same one.0) refl in (
      omega (arith, few one.0, sum_by-cons (share one.0) (Some one) os, own),
      fit_if_sums_do os (λ x. omega (arith, few x, sum_by-cons (share x) (Some one) os)),
    )

pub has_sums : (os : List (Option (List ℕ × ℕ))) (count_of : List ℕ → ℕ) → AllAdd os → ((x : List ℕ) → sum_by (share x) os ≡ count_of x) → ((x : List ℕ) → count_of x < 2 ^ 64) → HasCounts (after [] os) count_of
has_sums os count_of some sums few =
    let fit = fit_if_sums_do os (λ x. omega (arith, sums x, few x)) in
    has_counts (after [] os) count_of (distinct-after os [] tt) (there-after os [] some tt)
    (λ x. omega (arith, count_in-after x os [] (omega arith) fit, sums x, few x))

-- where letters add up to less than the limit, what is there is what they add up to
pub letters_add_up : (here ranks : ℕ) (letters : List Letter) → All AddsNoZero letters → ((item : List ℕ) → sum_by (adds_of item) letters < 2 ^ 64)
    → HasCounts (fold_from counting_apply here ranks [] letters) (λ item. sum_by (adds_of item) letters)
letters_add_up here ranks letters some few =
    subst (λ es. HasCounts es (λ item. sum_by (adds_of item) letters)) (sym (fold-after here ranks [] letters))
    (has_sums (map adds letters) (λ item. sum_by (adds_of item) letters) (all_add letters some) (λ x. sum_by-map (share x) adds letters) few)

-- ---- at the limit

-- whatever letters run, a count that isn't 0 is there exactly where it is what they add up to, up to the limit
pub counts_up_to_the_limit : (here ranks : ℕ) (letters : List Letter) → All (λ l. AreBytes l.body) letters → (item : List ℕ) (count : ℕ) → 0 < count
    → Contains (fold_from counting_apply here ranks [] letters) (item, count) ↔ (count ≡ capped (sum_by (adds_of item) letters))
counts_up_to_the_limit here ranks letters fit item count lt =
    let es = fold_from counting_apply here ranks [] letters in
    let apart : Distinct es = subst Distinct (sym (fold-after here ranks [] letters)) (distinct-after (map adds letters) [] tt) in
    let sums : count_in es item ≡ capped (sum_by (adds_of item) letters) = omega (arith, counts_are_sums here ranks [] letters item (omega arith) fit) in (
      (λ there. count_if_there item count es apart there.0 there.1 there.2 ∙ sums),
      (λ is. there_if_counted item count es (is ∙ sym sums) lt),
    )
