-- Where one of each line is added, each line is there once, with the number of lines equal to it.
use Rattle.std.proofs.Common.{◌≡◌, ℕ, ◌^◌, ◌<◌, List, [], ◌∷◌, map, length, Option, Some, count_by, sym, ap, subst, ◌∙◌, arith}
use Rattle.std.specs.Prelude.{bytes_eq}
use Rattle.std.proofs.lemmas.List.Sums.{count_by-le-length}
use Rattle.list_facts.proofs.Sums.{sum_by-map}
use Rattle.msg_codec.specs.declared.letter.Letter.{Letter}
use Rattle.comm_rank.specs.Fold.{fold_from}
use Rattle.counting_set.specs.Counting.{adds, share, counting_apply, AreCounted}
use Rattle.counting_set.proofs.Counts.After.{after, fold-after}
use Rattle.counting_set.proofs.Counts.HasCounts.{AllAdd, has_sums}

-- one of a line
abbrev pub one_of : List ℕ → Option (List ℕ × ℕ)
one_of line = Some (line, 1)

ones_add : (lines : List (List ℕ)) → AllAdd (map one_of lines)
ones_add [] = tt
ones_add (x ∷ xs) = (omega arith, ones_add xs)

ones_are_counted : (lines : List (List ℕ)) → length lines < 2 ^ 64 → AreCounted (after [] (map one_of lines)) lines
ones_are_counted lines few =
    has_sums (map one_of lines) (λ x. count_by (λ line. bytes_eq x line) lines) (ones_add lines)
    (λ x. sum_by-map (share x) one_of lines)
    (λ x. omega (arith, count_by-le-length (λ line. bytes_eq x line) lines, few))

pub adds_of_one_are_counted : (here ranks : ℕ) (letters : List Letter) (lines : List (List ℕ)) → map adds letters ≡ map (λ line. Some (line, 1)) lines → length lines < 2 ^ 64
    → AreCounted (fold_from counting_apply here ranks [] letters) lines
adds_of_one_are_counted here ranks letters lines are few =
    let shard : fold_from counting_apply here ranks [] letters ≡ after [] (map one_of lines) = fold-after here ranks [] letters ∙ ap (after []) are in
    subst (λ es. AreCounted es lines) (sym shard) (ones_are_counted lines few)
