-- Bytes that start with a line.
use Rattle.std.proofs.Common.{◌≡◌, ◌≢◌, zero, suc, ◌+◌, ◌-◌, ◌<◌, ◌≤◌, ℕ, List, [], ◌∷◌, ◌++◌, length, length-append, take, drop, Option, None, Some, IfSome, IfNone, unwrap_or, refl, ap, ◌∙◌, sym, arith}
use Rattle.std.proofs.lemmas.List.{append_assoc, length-take}
use Rattle.std.proofs.lemmas.List.Elements.{All-append, All-take}
use Rattle.std.specs.Prelude.{slice_range}
use Rattle.list_facts.proofs.Slices.{drop-slice_range}
use Rattle.line_input.specs.Limits.{max_line}
use Rattle.line_input.specs.Lines.{LacksLf, text_of}
use Rattle.line_input.specs.Held.{StartsWithLine}
use Rattle.line_input.proofs.Lines.TextOf.{length-text_of}

-- no line ends before the first LF
pub LacksLf-prefix : (found : Option ℕ) (piece : List ℕ) (count : ℕ) → IfSome found (λ end. LacksLf (take end piece)) → IfNone found (LacksLf piece) → LacksLf (take (unwrap_or found count) piece)
LacksLf-prefix None piece count some none = All-take (λ b. b ≢ 10) count piece none
LacksLf-prefix (Some end) piece count some none = some

-- a piece with an LF completes the line that the carry began
pub joined_line : (carry prefix rest text : List ℕ) → LacksLf carry → LacksLf prefix → length carry + length prefix ≤ max_line → text ≡ text_of (carry ++ prefix) → StartsWithLine (carry ++ (prefix ++ 10 ∷ rest)) text rest
joined_line carry prefix rest text c f short is = record {
  raw = carry ++ prefix;
  whole = sym (append_assoc carry prefix (10 ∷ rest));
  partial = All-append (λ b. b ≢ 10) carry prefix c f;
  short = omega (arith, length-append carry prefix);
  text_is = is;
}

-- a whole line in the buffer, with nothing in the carry
pub buffered_line : (carry buffer text : List ℕ) (start end n : ℕ) → carry ≡ [] → let buffered = slice_range buffer start end in n < length buffered → end ≤ max_line → LacksLf (take n buffered) → buffered ≡ take n buffered ++ 10 ∷ drop (n + 1) buffered → text ≡ text_of (take n buffered) → StartsWithLine (carry ++ buffered) text (carry ++ slice_range buffer (start + (n + 1)) end)
buffered_line carry buffer text start end n none within bound partial parts is =
    let buffered = slice_range buffer start end in
    let most : length buffered ≤ end - start = omega (arith, length-take (end - start) (drop start buffer)) in
    record {
      raw = take n buffered;
      whole = ap (λ c. c ++ buffered) none ∙ parts ∙ ap (λ rest. take n buffered ++ 10 ∷ rest) (drop-slice_range (n + 1) start end buffer (omega arith)) ∙ sym (ap (λ c. take n buffered ++ 10 ∷ (c ++ slice_range buffer (start + (n + 1)) end)) none);
      partial = partial;
      short = omega (arith, length-take n buffered);
      text_is = is;
    }

-- of equal bytes
pub same_line : (bytes bytes' text held held' : List ℕ) → bytes ≡ bytes' → held ≡ held' → StartsWithLine bytes' text held' → StartsWithLine bytes text held
same_line bytes bytes' text held held' b h line = record {
  raw = line.raw;
  whole = b ∙ line.whole ∙ ap (λ rest. line.raw ++ 10 ∷ rest) (sym h);
  partial = line.partial;
  short = line.short;
  text_is = line.text_is;
}

pub prefix_within : (found : Option ℕ) (count most : ℕ) → count ≤ most → IfSome found (λ end. end < most) → unwrap_or found count ≤ most
prefix_within None count most h some = h
prefix_within (Some end) count most h some = omega arith

-- the carry is empty while the buffer has bytes
pub no_carry : (carried start end : ℕ) → (0 < carried → start ≡ end) → start < end → carried ≡ 0
no_carry zero start end h waits = refl
no_carry (suc carried) start end h waits = absurd (let same : start ≡ end = h (omega arith) in omega arith)

-- a line's text isn't too long
pub text_is_short : (bytes text held : List ℕ) → StartsWithLine bytes text held → length text ≤ max_line
text_is_short bytes text held line = omega (arith, ap length line.text_is, length-text_of line.raw, line.short)
