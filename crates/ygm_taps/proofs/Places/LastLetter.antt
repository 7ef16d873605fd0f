-- A letter that is put last: its body follows the bytes of the letters before it.
use Rattle.std.proofs.Common.{◌≡◌, ℕ, ◌+◌, ◌≤◌, All, List, [], ◌∷◌, ◌++◌, map, length, take, drop, refl, ap, ◌∙◌, arith, length-drop}
use Rattle.std.proofs.Math.Seq.{drop-append_seam, take-length}
use Rattle.std.proofs.lemmas.List.{map-append, take-append-le, drop-append-le}
use Rattle.std.proofs.lemmas.List.Elements.{All-head, All-tail}
use Rattle.ygm_taps.specs.declared.kept_letters.Place.{Place}
use Rattle.ygm_taps.specs.Places.{letter_in, IsWithin}

body_before : (bytes more : List ℕ) (start len : ℕ) → start + len ≤ length bytes → take len (drop start (bytes ++ more)) ≡ take len (drop start bytes)
body_before bytes more start len within =
    ap (take len) (drop-append-le start bytes more (omega arith))
    ∙ take-append-le len (drop start bytes) more (omega (arith, length-drop start bytes))

letters_before : (bytes more : List ℕ) (places : List Place) → All (IsWithin bytes) places → map (letter_in (bytes ++ more)) places ≡ map (letter_in bytes) places
letters_before bytes more [] within = refl
letters_before bytes more (place ∷ places) within =
    let head : IsWithin bytes place = All-head (IsWithin bytes) place places within in
    ap (λ (body : List ℕ). record { from = place.from; tag = place.tag; body = body } ∷ map (letter_in (bytes ++ more)) places) (body_before bytes more place.start place.len head)
    ∙ ap (λ letters. letter_in bytes place ∷ letters) (letters_before bytes more places (All-tail (IsWithin bytes) place places within))

last_body : (bytes body : List ℕ) → take (length body) (drop (length bytes) (bytes ++ body)) ≡ body
last_body bytes body = ap (take (length body)) (drop-append_seam bytes body) ∙ take-length body

pub last_letter : (bytes body : List ℕ) (places : List Place) (from tag : ℕ) → All (IsWithin bytes) places →
    map (letter_in (bytes ++ body)) (places ++ record { from = from; tag = tag; start = length bytes; len = length body } ∷ [])
    ≡ map (letter_in bytes) places ++ record { from = from; tag = tag; body = body } ∷ []
last_letter bytes body places from tag within =
    let place : Place = record { from = from; tag = tag; start = length bytes; len = length body } in
    let last : letter_in (bytes ++ body) place ≡ record { from = from; tag = tag; body = body } =
    ap (λ (held : List ℕ). record { from = from; tag = tag; body = held }) (last_body bytes body) in
    map-append (letter_in (bytes ++ body)) places (place ∷ [])
    ∙ ap (λ letters. letters ++ letter_in (bytes ++ body) place ∷ []) (letters_before bytes body places within)
    ∙ ap (λ letter. map (letter_in bytes) places ++ letter ∷ []) last
