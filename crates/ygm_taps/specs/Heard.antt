-- What a tap heard: the letters that ran since it was started to keep them.
use Rattle.std.specs.Prelude.{◌≡◌, ℕ, Bool, true, false, List, [], ◌∷◌, ◌++◌, Option, None, Some, IfSome}
use Rattle.std.specs.Option.{option_map}
use Rattle.ygm_taps.specs.declared.told.Told.{Told}

-- a letter that ran on a rank: its sender, tag and body
pub record RanLetter : Type 0 where
  pub from : ℕ
  pub tag : ℕ
  pub body : List ℕ

-- the letter that a tap returned
abbrev pub told_of : Told → RanLetter
told_of told = record { from = told.from; tag = told.tag; body = told.body.now }

-- the letters that a tap exposes, or none where it exposes nothing
abbrev pub Heard : Type 0
Heard = Option (List RanLetter)

-- the letters that it keeps
abbrev pub entries : Heard → List RanLetter
entries None = []
entries (Some letters) = letters

-- what it has heard after a letter more
abbrev pub with_letter : Heard → RanLetter → Heard
with_letter heard letter = option_map (λ letters. letters ++ letter ∷ []) heard

-- It was started, and has heard nothing since. It exposes what it hears only if it was started to keep letters.
abbrev pub Started : Bool → Heard → Type 0
Started true heard = IfSome heard (λ letters. letters ≡ [])
Started false heard = heard ≡ None
