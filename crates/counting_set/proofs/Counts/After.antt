-- The contents after letters are those after what the letters add, and nothing is sent.
use Rattle.std.proofs.Common.{◌≡◌, ℕ, List, [], ◌∷◌, map, Option, refl}
use Rattle.msg_codec.specs.declared.letter.Letter.{Letter}
use Rattle.comm_rank.specs.Fold.{fold_from, handed_from}
use Rattle.counting_set.specs.Counting.{Counts, added_if, adds, counting_apply}

-- the contents after these adds
abbrev pub after : Counts → List (Option (List ℕ × ℕ)) → Counts
after contents [] = contents
after contents (o ∷ os) = after (added_if o contents) os

pub fold-after : (here ranks : ℕ) (contents : Counts) (letters : List Letter) → fold_from counting_apply here ranks contents letters ≡ after contents (map adds letters)
fold-after here ranks contents [] = refl
fold-after here ranks contents (l ∷ ls) = fold-after here ranks (added_if (adds l) contents) ls

pub handed-none : (here ranks : ℕ) (contents : Counts) (letters : List Letter) → handed_from counting_apply here ranks contents letters ≡ []
handed-none here ranks contents [] = refl
handed-none here ranks contents (l ∷ ls) = handed-none here ranks (added_if (adds l) contents) ls
