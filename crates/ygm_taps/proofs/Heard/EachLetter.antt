-- What a tap has heard after each of several letters.
use Rattle.std.proofs.Common.{◌≡◌, List, [], ◌∷◌, ◌++◌, None, Some, fold, refl, sym, ap, ◌∙◌, append_assoc}
use Rattle.std.proofs.lemmas.List.{append-nil}
use Rattle.ygm_taps.specs.Heard.{RanLetter, with_letter}

pub heard_more : (before letters : List RanLetter) → fold with_letter (Some before) letters ≡ Some (before ++ letters)
heard_more before [] = ap Some (sym (append-nil before))
heard_more before (letter ∷ letters) = heard_more (before ++ letter ∷ []) letters ∙ ap Some (append_assoc before (letter ∷ []) letters)

pub heard_nothing : (letters : List RanLetter) → fold with_letter None letters ≡ None
heard_nothing [] = refl
heard_nothing (letter ∷ letters) = heard_nothing letters
