-- The text of a raw line, by its last byte.
use Rattle.std.proofs.Common.{◌≡◌, ◌+◌, ◌-◌, ◌<◌, ◌≤◌, ℕ, eqb, List, [], ◌∷◌, ◌++◌, length, get_or, take, Bool, true, false, cond, Some, refl, ap, ◌∙◌, sym, arith, nat_eq}
use Rattle.std.proofs.lemmas.List.{take_more, take_all}
use Rattle.std.proofs.lemmas.Option.{slice_get-get_or}
use Rattle.std.specs.List.{slice_get}
use Rattle.std.specs.Option.{option_eq}
use Rattle.line_input.specs.Lines.{text_of}

put_before : (x last : ℕ) (b : Bool) (xs : List ℕ) → x ∷ cond b xs (xs ++ last ∷ []) ≡ cond b (x ∷ xs) (x ∷ xs ++ last ∷ [])
put_before x last true xs = refl
put_before x last false xs = refl

-- a CR at the end is dropped, and any other byte is kept
pub text_of-push : (xs : List ℕ) (last : ℕ) → text_of (xs ++ last ∷ []) ≡ cond (eqb last 13) xs (xs ++ last ∷ [])
text_of-push [] last = refl
text_of-push (x ∷ []) last = put_before x last (eqb last 13) []
text_of-push (x ∷ y ∷ ys) last = ap (λ t. x ∷ t) (text_of-push (y ∷ ys) last) ∙ put_before x last (eqb last 13) (y ∷ ys)

-- a line is all but its last byte, and that byte
last_apart : (line : List ℕ) → 0 < length line → line ≡ take (length line - 1) line ++ get_or line (length line - 1) 0 ∷ []
last_apart line h =
    let n : length line - 1 < length line = omega arith in
    let e : length line - 1 + 1 ≡ length line = omega arith in
    sym (take_all (length line) line (omega arith)) ∙ ap (λ n. take n line) (sym e) ∙ take_more line (length line - 1) 0 n

text_of-last : (line : List ℕ) → 0 < length line → text_of line ≡ cond (eqb (get_or line (length line - 1) 0) 13) (take (length line - 1) line) (take (length line - 1) line ++ get_or line (length line - 1) 0 ∷ [])
text_of-last line h = ap text_of (last_apart line h) ∙ text_of-push (take (length line - 1) line) (get_or line (length line - 1) 0)

-- whether the last byte is a CR
last_test : (line : List ℕ) (b : Bool) → 0 < length line → option_eq nat_eq (slice_get line (length line - 1)) (Some 13) ≡ b → eqb (get_or line (length line - 1) 0) 13 ≡ b
last_test line b n h =
    let within : length line - 1 < length line = omega arith in
    sym (ap (λ found. option_eq nat_eq found (Some 13)) (slice_get-get_or line (length line - 1) 0 within)) ∙ h

pub text_without_cr : (line : List ℕ) → option_eq nat_eq (slice_get line (length line - 1)) (Some 13) ≡ true → take (length line - 1) line ≡ text_of line
text_without_cr [] h = refl
text_without_cr (x ∷ xs) h =
    let line = x ∷ xs in
    let n : 0 < length line = omega arith in
    sym (text_of-last line n ∙ ap (λ b. cond b (take (length line - 1) line) (take (length line - 1) line ++ get_or line (length line - 1) 0 ∷ [])) (last_test line true n h))

pub text_as_it_is : (line : List ℕ) → option_eq nat_eq (slice_get line (length line - 1)) (Some 13) ≡ false → take (length line) line ≡ text_of line
text_as_it_is [] h = refl
text_as_it_is (x ∷ xs) h =
    let line = x ∷ xs in
    let n : 0 < length line = omega arith in
    take_all (length line) line (omega arith)
    ∙ last_apart line n
    ∙ sym (text_of-last line n ∙ ap (λ b. cond b (take (length line - 1) line) (take (length line - 1) line ++ get_or line (length line - 1) 0 ∷ [])) (last_test line false n h))

-- a text has no more bytes than its line
pub length-text_of : (line : List ℕ) → length (text_of line) ≤ length line
length-text_of [] = omega arith
length-text_of (byte ∷ []) = by_test (eqb byte 13)
  where
    by_test : (b : Bool) → length (cond b [] (byte ∷ [])) ≤ 1
    by_test true = omega arith
    by_test false = omega arith
length-text_of (byte ∷ next ∷ bytes) = omega (arith, length-text_of (next ∷ bytes))
