-- What a rank's tap hears of the letters that run there.
use Rattle.std.specs.Prelude.{◌≡◌, ◌⊎◌, List, [], ◌∷◌, ◌++◌, map}
use Rattle.std.specs.Option.{option_map}
use Rattle.msg_codec.specs.declared.letter.Letter.{Letter}
use Rattle.ygm_taps.specs.Heard.{Heard, RanLetter}

-- a letter as a tap hears it: its sender, its tag and its body
abbrev pub as_heard : Letter → RanLetter
as_heard l = record { from = l.from; tag = l.tag; body = l.body }

-- what a tap has heard after these letters more, in order
abbrev pub with_letters : Heard → List Letter → Heard
with_letters heard letters = option_map (λ before. before ++ map as_heard letters) heard

-- of these letters it heard all but the last
pub record LacksLast (before after : Heard) (letters : List Letter) : Type 0 where
  pub given : List Letter
  pub last : Letter
  pub joined : letters ≡ given ++ last ∷ []
  pub heard : after ≡ with_letters before given

-- it heard all of them, or all but the last
abbrev pub HeardOrLacksLast : Heard → Heard → List Letter → Type 0
HeardOrLacksLast before after letters = (after ≡ with_letters before letters) ⊎ LacksLast before after letters
