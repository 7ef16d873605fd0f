-- An item that is put last: its bytes follow those of the items before it.
use Rattle.std.proofs.Common.{◌≡◌, ℕ, All, List, [], ◌∷◌, ◌++◌, map, length, take, drop, refl, ap, ◌∙◌, arith, length-drop}
use Rattle.std.proofs.Math.Seq.{drop-append_seam, take-length}
use Rattle.std.proofs.lemmas.List.{map-append, take-append-le, drop-append-le}
use Rattle.std.proofs.lemmas.List.Elements.{All-head, All-tail}
use Rattle.bag_set.specs.declared.kept_items.Place.{Place}
use Rattle.bag_set.specs.Places.{item_in, IsWithin}

item_before : (bytes more : List ℕ) (place : Place) → IsWithin bytes place → item_in (bytes ++ more) place ≡ item_in bytes place
item_before bytes more place within =
    ap (take place.len) (drop-append-le place.start bytes more (omega (arith, within)))
    ∙ take-append-le place.len (drop place.start bytes) more (omega (arith, within, length-drop place.start bytes))

items_before : (bytes more : List ℕ) (places : List Place) → All (IsWithin bytes) places → map (item_in (bytes ++ more)) places ≡ map (item_in bytes) places
items_before bytes more [] within = refl
items_before bytes more (place ∷ places) within =
    ap (λ item. item ∷ map (item_in (bytes ++ more)) places) (item_before bytes more place (All-head (IsWithin bytes) place places within))
    ∙ ap (λ items. item_in bytes place ∷ items) (items_before bytes more places (All-tail (IsWithin bytes) place places within))

pub last_item : (bytes item : List ℕ) (places : List Place) → All (IsWithin bytes) places →
    map (item_in (bytes ++ item)) (places ++ record { start = length bytes; len = length item } ∷ []) ≡ map (item_in bytes) places ++ item ∷ []
last_item bytes item places within =
    let place : Place = record { start = length bytes; len = length item } in
    let last : item_in (bytes ++ item) place ≡ item = ap (take (length item)) (drop-append_seam bytes item) ∙ take-length item in
    map-append (item_in (bytes ++ item)) places (place ∷ [])
    ∙ ap (λ items. items ++ item_in (bytes ++ item) place ∷ []) (items_before bytes item places within)
    ∙ ap (λ x. map (item_in bytes) places ++ x ∷ []) last
