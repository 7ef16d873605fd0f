-- The first letter of bytes that begin with its encoding.
use Rattle.std.proofs.Common.{◌≡◌, ℕ, List, [], ◌∷◌, ◌++◌, length, take, drop, get_or, refl, sym, ap, ◌∙◌, arith}
use Rattle.std.specs.Int.{w32, from_le_bytes}
use Rattle.std.proofs.lemmas.List.{take_at, get_or-drop}
use Rattle.std.proofs.lemmas.Nat.{from_le_bytes-to_le_bytes_4}
use Rattle.msg_codec.specs.declared.letter.Letter.{Letter}
use Rattle.msg_codec.specs.Spelling.{spelled_letter}
use Rattle.msg_codec.specs.Placed.{Fits, stated_length, first_letter}

abbrev pub made : ℕ → ℕ → ℕ → List ℕ → Letter
made to from tag body = record { to = to; from = from; tag = tag; body = body }

pub same_letter : (a b c d e f : ℕ) (x y : List ℕ) → a ≡ b → c ≡ d → e ≡ f → x ≡ y → made a c e x ≡ made b d f y
same_letter a b c d e f x y p q r s = cc

pub stated_again : (l : Letter) (rest : List ℕ) → Fits l → stated_length (spelled_letter l ++ rest) ≡ length l.body
unfolding stated_length
stated_again l rest fits = from_le_bytes-to_le_bytes_4 (length l.body) (omega (arith, fits.body_short))

pub first_again : (l : Letter) (rest : List ℕ) → Fits l → first_letter (spelled_letter l ++ rest) ≡ l
unfolding first_letter
first_again l rest fits =
    let body : take (stated_length (spelled_letter l ++ rest)) (l.body ++ rest) ≡ l.body = take_at l.body rest _ (sym (stated_again l rest fits)) in
    same_letter _ _ _ _ _ _ _ _ (from_le_bytes-to_le_bytes_4 l.to fits.to_fits) (from_le_bytes-to_le_bytes_4 l.from fits.from_fits) refl body

pub stated_is : (bytes : List ℕ) → from_le_bytes w32 (get_or bytes 9 0 ∷ get_or bytes 10 0 ∷ get_or bytes 11 0 ∷ get_or bytes 12 0 ∷ []) ≡ stated_length bytes
unfolding stated_length
stated_is bytes = simp get_or-drop

sender_is : (bytes : List ℕ) → from_le_bytes w32 (get_or bytes 4 0 ∷ get_or bytes 5 0 ∷ get_or bytes 6 0 ∷ get_or bytes 7 0 ∷ []) ≡ from_le_bytes w32 (drop 4 bytes)
sender_is bytes = simp get_or-drop

-- the fields at their places are those of the letter
pub first_is : (bytes : List ℕ) (to from tag len : ℕ) (body : List ℕ) → to ≡ from_le_bytes w32 (get_or bytes 0 0 ∷ get_or bytes 1 0 ∷ get_or bytes 2 0 ∷ get_or bytes 3 0 ∷ [])
    → from ≡ from_le_bytes w32 (get_or bytes 4 0 ∷ get_or bytes 5 0 ∷ get_or bytes 6 0 ∷ get_or bytes 7 0 ∷ []) → tag ≡ get_or bytes 8 0
    → len ≡ from_le_bytes w32 (get_or bytes 9 0 ∷ get_or bytes 10 0 ∷ get_or bytes 11 0 ∷ get_or bytes 12 0 ∷ []) → body ≡ take len (drop 13 bytes) → made to from tag body ≡ first_letter bytes
unfolding first_letter
first_is bytes to from tag len body to-is from-is tag-is len-is body-is =
    same_letter _ _ _ _ _ _ _ _ to-is (from-is ∙ sender_is bytes) tag-is (body-is ∙ ap (λ (n : ℕ). take n (drop 13 bytes)) (len-is ∙ stated_is bytes))
