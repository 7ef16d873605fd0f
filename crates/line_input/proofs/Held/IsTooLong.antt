-- Bytes that start with a line that is too long, whatever follows.
use Rattle.std.proofs.Common.{◌≡◌, ◌≢◌, ◌+◌, ◌<◌, ◌≤◌, ℕ, List, ◌++◌, length, length-append, take, drop, ap, subst, ◌∙◌, sym, arith}
use Rattle.std.proofs.lemmas.List.{append_assoc, length-take-le, take-append-drop}
use Rattle.std.proofs.lemmas.List.Elements.{All-append}
use Rattle.line_input.specs.Limits.{max_line}
use Rattle.line_input.specs.Lines.{LacksLf, StartsTooLong}
use Rattle.line_input.proofs.Lines.RawLines.{starts_too_long}

-- the carry, followed by what comes before the first LF, is too long
pub joined_too_long : (carry piece : List ℕ) (n : ℕ) → LacksLf carry → LacksLf (take n piece) → n ≤ length piece → max_line < length carry + n → (rest : List ℕ) → StartsTooLong ((carry ++ piece) ++ rest)
joined_too_long carry piece n c f within long rest =
    let prefix = take n piece in
    let cut : (carry ++ piece) ++ rest ≡ (carry ++ prefix) ++ (drop n piece ++ rest) =
    ap (λ p. (carry ++ p) ++ rest) (sym (take-append-drop n piece))
    ∙ ap (λ b. b ++ rest) (sym (append_assoc carry prefix (drop n piece)))
    ∙ append_assoc (carry ++ prefix) (drop n piece) rest in
    subst StartsTooLong (sym cut)
    (starts_too_long (carry ++ prefix) (drop n piece ++ rest) (All-append (λ b. b ≢ 10) carry prefix c f) (omega (arith, length-append carry prefix, length-take-le n piece within)))
