-- The lines of all files: how many equal an item, and how many there are.
use Rattle.std.proofs.Common.{◌≡◌, ℕ, suc, zero, ◌+◌, ◌*◌, ◌^◌, ◌<◌, ◌≤◌, List, [], ◌∷◌, All, length, get_or, sum_by, refl, sym, ap, ◌∙◌, arith, length-append}
use Rattle.std.specs.List.{AllByRecursion}
use Rattle.std.proofs.lemmas.List.Elements.{recursion_from_All}
use Rattle.std.proofs.lemmas.List.Sums.{sum_by-cons}
use Rattle.list_facts.specs.Sums.{sum_upto}
use Rattle.list_facts.proofs.Sums.{sum_upto-first, sum_upto-same, sum_upto-zero}
use Rattle.ygm_route.specs.Layout.{max_ranks}
use Rattle.world_core.specs.Limits.{most_letters}
use Rattle.ygm_run.specs.TallyText.{all_lines, times}
use Rattle.ygm_run.proofs.TallyText.Times.{times-all_lines}

-- a sum over places, of which those past the list add nothing
sum_upto-short : {X : Type 0} (f : X → ℕ) (d : X) (xs : List X) (n : ℕ) → f d ≡ 0 → length xs ≤ n → sum_upto (λ s. f (get_or xs s d)) n ≡ sum_by f xs
sum_upto-short f d [] n none le = sum_upto-same (λ s. f (get_or [] s d)) (λ s. 0) n (λ s lt. none) ∙ sum_upto-zero n
sum_upto-short f d (x ∷ xs) zero none le = absurd (omega (arith, le))
sum_upto-short f d (x ∷ xs) (suc n) none le =
    sum_upto-first (λ s. f (get_or (x ∷ xs) s d)) n ∙ ap (λ k. f x + k) (sum_upto-short f d xs n none (omega (arith, le))) ∙ sym (sum_by-cons f x xs)

-- what is counted in the files of ranks is counted in all lines
pub times_in_files : (item : List ℕ) (files : List (List (List ℕ))) (ranks : ℕ) → length files ≤ ranks → sum_upto (λ rank. times item (get_or files rank [])) ranks ≡ times item (all_lines files)
times_in_files item files ranks le = sum_upto-short (times item) [] files ranks refl le ∙ sym (times-all_lines item files)

no_more_lines : (most : ℕ) (files : List (List (List ℕ))) → AllByRecursion (λ lines. length lines ≤ most) files → length (all_lines files) ≤ length files * most
no_more_lines most [] h = omega arith
no_more_lines most (lines ∷ files) h = omega (arith, h.0, no_more_lines most files h.1, length-append lines (all_lines files))

-- the lines of all files are fewer than the limit of a count
pub lines_fit_a_count : (files : List (List (List ℕ))) → length files ≤ max_ranks → All (λ lines. length lines ≤ most_letters) files → length (all_lines files) < 2 ^ 64
lines_fit_a_count files le few =
    omega (arith, le, no_more_lines most_letters files (recursion_from_All (λ (lines : List (List ℕ)). length lines ≤ most_letters) files few))
