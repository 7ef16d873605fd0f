-- Bytes that are appended one piece after another.
use Rattle.std.proofs.Common.{◌≡◌, ℕ, ◌+◌, ◌-◌, List, ◌++◌, length, take, drop, None, Some, refl, ap, ◌∙◌, append_assoc, arith, length-drop}
use Rattle.std.proofs.lemmas.List.{take_all}
use Rattle.std.proofs.Math.Seq.{take-add}
use Rattle.std.specs.Option.{option_map}
use Rattle.ygm_io.specs.Content.{ExposedBytes, AppendedTo}

regrouped : (xs ys : List ℕ) (before : ExposedBytes) → option_map (λ held. held ++ ys) (option_map (λ held. held ++ xs) before) ≡ option_map (λ held. held ++ (xs ++ ys)) before
regrouped xs ys None = refl
regrouped xs ys (Some held) = ap Some (append_assoc held xs ys)

-- one piece and then another are both appended
pub appended_twice : (xs ys : List ℕ) (before between now : ExposedBytes) → AppendedTo xs before between → AppendedTo ys between now → AppendedTo (xs ++ ys) before now
appended_twice xs ys before between now first then =
    then ∙ ap (λ (held : ExposedBytes). option_map (λ bytes. bytes ++ ys) held) first ∙ regrouped xs ys before

-- after the first bytes, the next of those that remain
pub appended_more : (bytes : List ℕ) (written count : ℕ) (before between now : ExposedBytes) → AppendedTo (take written bytes) before between → AppendedTo (take count (take (length bytes - written) (drop written bytes))) between now → AppendedTo (take (written + count) bytes) before now
appended_more bytes written count before between now first then =
    let left : take (length bytes - written) (drop written bytes) ≡ drop written bytes = take_all _ _ (omega (arith, length-drop written bytes)) in
    rw (take-add written count bytes) (appended_twice _ _ before between now first (rw left at then))
