-- How often an item is among lines.
use Rattle.std.proofs.Common.{◌≡◌, ℕ, ◌+◌, ◌<◌, ◌⊎◌, List, [], ◌∷◌, ◌++◌, Contains, IsPermutation, bytes_eq, cond, Bool, true, false, inl, inr, refl, sym, ap, ◌∙◌, subst, arith, ⊎_elim, sum_by}
use Rattle.std.proofs.lemmas.List.Sums.{sum_by-append, sum_by-cons}
use Rattle.std.proofs.lemmas.List.Sorted.{sum_by-IsPermutation}
use Rattle.std.proofs.lemmas.Slice.Eq.{bytes_eq-Decides}
use Rattle.ygm_run.specs.TallyText.{all_lines, times}
use Rattle.list_facts.proofs.Members.{Contains-here, Contains-there, Contains-cons_cases, Contains-nil}

-- 1 where two items are equal
abbrev one_if_same : List ℕ → List ℕ → ℕ
one_if_same item line = cond (bytes_eq item line) 1 0

pub times-cons : (item line : List ℕ) (lines : List (List ℕ)) → times item (line ∷ lines) ≡ one_if_same item line + times item lines
times-cons item line lines = sum_by-cons (one_if_same item) line lines

pub times-append : (item : List ℕ) (lines more : List (List ℕ)) → times item (lines ++ more) ≡ times item lines + times item more
times-append item lines more = sum_by-append (one_if_same item) lines more

-- the lines of all files that equal an item are those of each file, added up
pub times-all_lines : (item : List ℕ) (files : List (List (List ℕ))) → times item (all_lines files) ≡ sum_by (times item) files
times-all_lines item [] = refl
times-all_lines item (file ∷ files) =
    times-append item file (all_lines files) ∙ ap (λ rest. times item file + rest) (times-all_lines item files) ∙ sym (sum_by-cons (times item) file files)

pub times-IsPermutation : (item : List ℕ) (lines others : List (List ℕ)) → IsPermutation lines others → times item others ≡ times item lines
times-IsPermutation item lines others h = sum_by-IsPermutation (one_if_same item) lines others h

at_line : (item line : List ℕ) (same : Bool) → bytes_eq item line ≡ same → (line ≡ item) ⊎ (one_if_same item line ≡ 0)
at_line item line true h = inl (sym ((bytes_eq-Decides item line).0 h))
at_line item line false h = inr (ap (λ b. cond b 1 0) h)

-- an item that is counted is there
pub Contains-from_times : (item : List ℕ) (lines : List (List ℕ)) → 0 < times item lines → Contains lines item
Contains-from_times item [] h = absurd (omega arith)
Contains-from_times item (line ∷ lines) h =
    ⊎_elim
    (λ is. subst (Contains (line ∷ lines)) is (Contains-here line lines))
    (λ none. Contains-there line item lines (Contains-from_times item lines (omega (arith, times-cons item line lines, none))))
    (at_line item line (bytes_eq item line) refl)

-- an item that is there is counted
pub times_from_Contains : (item : List ℕ) (lines : List (List ℕ)) → Contains lines item → 0 < times item lines
times_from_Contains item [] h = absurd (Contains-nil item h)
times_from_Contains item (line ∷ lines) h =
    ⊎_elim
    (λ is. let one : one_if_same item line ≡ 1 = ap (λ b. cond b 1 0) ((bytes_eq-Decides item line).1 (sym is)) in omega (arith, times-cons item line lines, one))
    (λ later. omega (arith, times-cons item line lines, times_from_Contains item lines later))
    (Contains-cons_cases line item lines h)
