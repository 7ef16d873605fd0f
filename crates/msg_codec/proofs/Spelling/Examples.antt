-- Encodings of letters, worked out by hand.
use Rattle.std.proofs.Common.{◌≡◌, [], ◌∷◌, refl}
use Rattle.msg_codec.specs.declared.letter.Letter.{Letter}
use Rattle.msg_codec.specs.Spelling.{spelled_letter, spelling}

abbrev ab : Letter
ab = record { to = 2; from = 0; tag = 1; body = 97 ∷ 98 ∷ [] }

abbrev far : Letter
far = record { to = 258; from = 65536; tag = 255; body = [] }

letter_ab : spelled_letter ab ≡ 2 ∷ 0 ∷ 0 ∷ 0 ∷ 0 ∷ 0 ∷ 0 ∷ 0 ∷ 1 ∷ 2 ∷ 0 ∷ 0 ∷ 0 ∷ 97 ∷ 98 ∷ []
letter_ab = refl

no_letters : spelling [] ≡ []
no_letters = refl

two_letters : spelling (ab ∷ far ∷ []) ≡ 2 ∷ 0 ∷ 0 ∷ 0 ∷ 0 ∷ 0 ∷ 0 ∷ 0 ∷ 1 ∷ 2 ∷ 0 ∷ 0 ∷ 0 ∷ 97 ∷ 98 ∷ 2 ∷ 1 ∷ 0 ∷ 0 ∷ 0 ∷ 0 ∷ 1 ∷ 0 ∷ 255 ∷ 0 ∷ 0 ∷ 0 ∷ 0 ∷ []
two_letters = refl
