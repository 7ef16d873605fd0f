-- Where the bodies of kept letters lie. Only private functions and types cite this.
use Rattle.std.specs.Prelude.{ℕ, ◌+◌, ◌≤◌, List, length, take, drop}
use Rattle.ygm_taps.specs.declared.kept_letters.Place.{Place}
use Rattle.ygm_taps.specs.Heard.{RanLetter}

-- the letter whose body lies at that place of the bytes
abbrev pub letter_in : List ℕ → Place → RanLetter
letter_in bytes place = record { from = place.from; tag = place.tag; body = take place.len (drop place.start bytes) }

-- its body lies within the bytes
abbrev pub IsWithin : List ℕ → Place → Type 0
IsWithin bytes place = place.start + place.len ≤ length bytes
