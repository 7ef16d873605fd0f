-- The raw lines of bytes, and how many of them end.
use Rattle.std.proofs.Common.{subst, sym, ◌≡◌, ◌≢◌, ◌+◌, ◌<◌, ◌≤◌, ℕ, eqb, List, [], ◌∷◌, ◌++◌, length, Bool, true, false, cond, Some, refl, ap, ◌∙◌, arith, ⊎_elim}
use Rattle.std.proofs.lemmas.List.Elements.{All-head, All-tail}
use Rattle.std.proofs.lemmas.List.Sums.{sum_by-append, sum_by-cons}
use Rattle.std.proofs.lemmas.Bool.{lt-ltb}
use Rattle.std.proofs.lemmas.Bool.Decides.{eqb_tells}
use Rattle.std.specs.List.{AllByRecursion}
use Rattle.std.specs.Option.{option_map}
use Rattle.line_input.specs.Limits.{max_line}
use Rattle.line_input.specs.Lines.{raw_lines, onto_first, ended_lines, LacksLf, StartsTooLong, first_too_long}

not_lf : (byte : ℕ) → byte ≢ 10 → eqb byte 10 ≡ false
not_lf byte h = ⊎_elim (λ t. absurd (h t.1)) (λ f. f.0) (eqb_tells byte 10)

-- a byte that isn't LF goes onto the first line of what follows
raw_lines-cons : (byte : ℕ) (bytes : List ℕ) → byte ≢ 10 → raw_lines (byte ∷ bytes) ≡ onto_first byte (raw_lines bytes)
raw_lines-cons byte bytes h = ap (λ b. cond b ([] ∷ raw_lines bytes) (onto_first byte (raw_lines bytes))) (not_lf byte h)

-- what comes before the first LF is the first line
pub raw_lines-at_lf : (raw rest : List ℕ) → LacksLf raw → raw_lines (raw ++ 10 ∷ rest) ≡ raw ∷ raw_lines rest
raw_lines-at_lf [] rest h = refl
raw_lines-at_lf (byte ∷ raw) rest h =
    raw_lines-cons byte (raw ++ 10 ∷ rest) (All-head (λ b. b ≢ 10) byte raw h)
    ∙ ap (onto_first byte) (raw_lines-at_lf raw rest (All-tail (λ b. b ≢ 10) byte raw h))

-- bytes with no LF are one line
pub raw_lines-at_end : (raw : List ℕ) → LacksLf raw → 0 < length raw → raw_lines raw ≡ raw ∷ []
raw_lines-at_end [] h n = absurd (omega arith)
raw_lines-at_end (byte ∷ []) h n = raw_lines-cons byte [] (All-head (λ b. b ≢ 10) byte [] h)
raw_lines-at_end (byte ∷ next ∷ raw) h n =
    raw_lines-cons byte (next ∷ raw) (All-head (λ b. b ≢ 10) byte (next ∷ raw) h)
    ∙ ap (onto_first byte) (raw_lines-at_end (next ∷ raw) (All-tail (λ b. b ≢ 10) byte (next ∷ raw) h) (omega arith))

-- how many bytes the first line has
first_len : List (List ℕ) → ℕ
first_len [] = 0
first_len (line ∷ lines) = length line

first_len-onto : (byte : ℕ) (lines : List (List ℕ)) → first_len (onto_first byte lines) ≡ first_len lines + 1
unfolding first_len
first_len-onto byte [] = refl
first_len-onto byte (line ∷ lines) = omega arith

-- the first line has at least the bytes before the first LF
first_len-prefix : (raw rest : List ℕ) → LacksLf raw → length raw ≤ first_len (raw_lines (raw ++ rest))
first_len-prefix [] rest h = omega arith
first_len-prefix (byte ∷ raw) rest h =
    let e : first_len (raw_lines (byte ∷ raw ++ rest)) ≡ first_len (onto_first byte (raw_lines (raw ++ rest))) = ap first_len (raw_lines-cons byte (raw ++ rest) (All-head (λ b. b ≢ 10) byte raw h)) in
    let more = first_len-onto byte (raw_lines (raw ++ rest)) in
    let before : length raw ≤ first_len (raw_lines (raw ++ rest)) = first_len-prefix raw rest (All-tail (λ b. b ≢ 10) byte raw h) in
    omega arith

first_is_too_long : (lines : List (List ℕ)) → max_line < first_len lines → first_too_long lines ≡ Some 1
unfolding first_len
first_is_too_long [] h = absurd (omega arith)
first_is_too_long (line ∷ lines) h =
    ap (λ b. cond b (Some 1) (option_map (λ number. number + 1) (first_too_long lines))) (lt-ltb max_line (length line) h)

pub starts_too_long : (raw rest : List ℕ) → LacksLf raw → max_line < length raw → StartsTooLong (raw ++ rest)
starts_too_long raw rest h long =
    let prefix = first_len-prefix raw rest h in
    first_is_too_long (raw_lines (raw ++ rest)) (omega arith)

-- 1 where a line ends
one_at_lf : ℕ → ℕ
one_at_lf byte = cond (eqb byte 10) 1 0

ended_lines-cons : (byte : ℕ) (bytes : List ℕ) → ended_lines (byte ∷ bytes) ≡ one_at_lf byte + ended_lines bytes
unfolding one_at_lf
ended_lines-cons byte bytes = sum_by-cons (λ b. cond (eqb b 10) 1 0) byte bytes

-- bytes without LF end no line
pub ended_lines-none : (bytes : List ℕ) → LacksLf bytes → ended_lines bytes ≡ 0
unfolding one_at_lf
ended_lines-none [] h = refl
ended_lines-none (byte ∷ bytes) h =
    let first : one_at_lf byte ≡ 0 = ap (λ b. cond b 1 0) (not_lf byte (All-head (λ b. b ≢ 10) byte bytes h)) in
    omega (arith, ended_lines-cons byte bytes, first, ended_lines-none bytes (All-tail (λ b. b ≢ 10) byte bytes h))

pub ended_lines-append : (bytes more : List ℕ) → ended_lines (bytes ++ more) ≡ ended_lines bytes + ended_lines more
ended_lines-append bytes more = sum_by-append (λ b. cond (eqb b 10) 1 0) bytes more

lines_onto_first : (byte : ℕ) (lines : List (List ℕ)) → length lines ≤ length (onto_first byte lines)
lines_onto_first byte [] = omega arith
lines_onto_first byte (line ∷ lines) = omega arith

-- a line that ends is a line
pub ended_are_lines : (bytes : List ℕ) → ended_lines bytes ≤ length (raw_lines bytes)
unfolding one_at_lf
ended_are_lines [] = omega arith
ended_are_lines (byte ∷ bytes) =
    let e = ended_lines-cons byte bytes in
    let more = by_test (eqb byte 10) (ended_are_lines bytes) in
    omega (arith, e, more) where
      by_test : (b : Bool) → ended_lines bytes ≤ length (raw_lines bytes) → cond b 1 0 + ended_lines bytes ≤ length (cond b ([] ∷ raw_lines bytes) (onto_first byte (raw_lines bytes)))
      by_test true rest = omega (arith, rest)
      by_test false rest = omega (arith, rest, lines_onto_first byte (raw_lines bytes))

-- of a part of a line that isn't too long, no line is
pub part_short : (part : List ℕ) → LacksLf part → length part ≤ max_line → AllByRecursion (λ raw. length raw ≤ max_line) (raw_lines part)
part_short [] h short = tt
part_short (byte ∷ part) h short = subst (AllByRecursion (λ raw. length raw ≤ max_line)) (sym (raw_lines-at_end (byte ∷ part) h (omega arith))) (short, tt)
