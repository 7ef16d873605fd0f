-- Private: where the bytes of kept items lie.
use Rattle.std.specs.Prelude.{ℕ, ◌+◌, ◌≤◌, List, length, take, drop}
use Rattle.bag_set.specs.declared.kept_items.Place.{Place}

-- the item whose bytes lie at that place
abbrev pub item_in : List ℕ → Place → List ℕ
item_in bytes place = take place.len (drop place.start bytes)

-- its bytes lie within all
abbrev pub IsWithin : List ℕ → Place → Type 0
IsWithin bytes place = place.start + place.len ≤ length bytes
