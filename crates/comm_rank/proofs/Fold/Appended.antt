-- Folds over letters that follow others, and what handlers give by them.
use Rattle.std.proofs.Common.{◌≡◌, ℕ, List, [], ◌∷◌, ◌++◌, refl, sym, ap, ◌∙◌, append_assoc}
use Rattle.msg_codec.specs.declared.letter.Letter.{Letter}
use Rattle.comm_rank.specs.Fold.{Applies, given_by, fold_from, handed_from}

pub fold-append : {C : Type 0} (apply : Applies C) (here ranks : ℕ) (c : C) (xs ys : List Letter) →
    fold_from apply here ranks c (xs ++ ys) ≡ fold_from apply here ranks (fold_from apply here ranks c xs) ys
fold-append apply here ranks c [] ys = refl
fold-append apply here ranks c (x ∷ xs) ys = fold-append apply here ranks (apply c here ranks x).0 xs ys

pub handed-append : {C : Type 0} (apply : Applies C) (here ranks : ℕ) (c : C) (xs ys : List Letter) →
    handed_from apply here ranks c (xs ++ ys) ≡ handed_from apply here ranks c xs ++ handed_from apply here ranks (fold_from apply here ranks c xs) ys
handed-append apply here ranks c [] ys = refl
handed-append apply here ranks c (x ∷ xs) ys =
    ap (λ w. given_by apply here ranks c x ++ w) (handed-append apply here ranks (apply c here ranks x).0 xs ys)
    ∙ sym (append_assoc (given_by apply here ranks c x) (handed_from apply here ranks (apply c here ranks x).0 xs) _)

-- running letters doesn't change the start
pub start_fold : {C : Type 0} (apply : Applies C) (start : C → C) → ((c : C) (here ranks : ℕ) (l : Letter) → start (apply c here ranks l).0 ≡ start c) →
    (here ranks : ℕ) (c : C) (ls : List Letter) → start (fold_from apply here ranks c ls) ≡ start c
start_fold apply start keeps here ranks c [] = refl
start_fold apply start keeps here ranks c (l ∷ ls) = start_fold apply start keeps here ranks (apply c here ranks l).0 ls ∙ keeps c here ranks l
