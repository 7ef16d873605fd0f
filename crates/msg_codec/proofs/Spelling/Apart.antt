-- Different lists of letters have different encodings.
use Rattle.std.proofs.Common.{◌≡◌, ℕ, List, [], ◌∷◌, ◌++◌, All, refl, sym, ap, ◌∙◌, arith}
use Rattle.std.proofs.lemmas.List.{append_cancel_left}
use Rattle.std.proofs.lemmas.List.Elements.{All-tail}
use Rattle.msg_codec.specs.declared.letter.Letter.{Letter}
use Rattle.msg_codec.specs.Spelling.{spelled_letter, spelling}
use Rattle.msg_codec.specs.Placed.{Fits, first_letter}
use Rattle.msg_codec.proofs.Placed.First.{first_again}

pub letter_is : (l m : Letter) (x y : List ℕ) → Fits l → Fits m → spelled_letter l ++ x ≡ spelled_letter m ++ y → l ≡ m
letter_is l m x y p q e = sym (first_again l x p) ∙ ap first_letter e ∙ first_again m y q

pub lists_are : (letters others : List Letter) → All Fits letters → All Fits others → spelling letters ≡ spelling others → letters ≡ others
lists_are [] [] p q e = refl
lists_are [] (m ∷ others) p q e = absurd cc
lists_are (l ∷ letters) [] p q e = absurd cc
lists_are (l ∷ letters) (m ∷ others) p q e =
    let head : l ≡ m = letter_is l m (spelling letters) (spelling others) (p 0 l (omega arith)) (q 0 m (omega arith)) e in
    let rest : spelling letters ≡ spelling others = append_cancel_left (spelled_letter m) (spelling letters) (spelling others) (ap (λ (x : Letter). spelled_letter x ++ spelling letters) (sym head) ∙ e) in
    let tail = lists_are letters others (All-tail Fits l letters p) (All-tail Fits m others q) rest in
    cc
