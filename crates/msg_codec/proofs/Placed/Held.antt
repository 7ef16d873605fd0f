-- The letter at a place of a batch.
use Rattle.std.proofs.Common.{◌≡◌, ℕ, zero, suc, ◌<◌, List, [], ◌∷◌, ◌++◌, length, drop, get_or, All, Some, refl, sym, ap, subst, ◌∙◌, append_assoc, arith, length-append}
use Rattle.std.specs.Prelude.{slice_get}
use Rattle.std.specs.Option.{option_map}
use Rattle.std.proofs.lemmas.Option.{slice_get-map, slice_get-get_or, get_or_from_slice_get}
use Rattle.std.proofs.lemmas.List.{drop_at, length-map}
use Rattle.std.proofs.lemmas.List.Elements.{All-tail}
use Rattle.msg_codec.specs.declared.letter.Letter.{Letter}
use Rattle.msg_codec.specs.Spelling.{spelled_letter, spelling}
use Rattle.msg_codec.specs.Placed.{Fits, first_letter, letters_at, starts_of, places_from, IsBatch, IsHeld}
use Rattle.msg_codec.proofs.Placed.First.{stated_again}
use Rattle.msg_codec.proofs.Placed.Letters.{none_later}

pub none_counted : (bytes later : List ℕ) (letters : List Letter) → IsBatch bytes (starts_of bytes later) → letters_at bytes (starts_of bytes later) ≡ letters → length bytes ≡ 0 → 0 ≡ length letters
none_counted [] later letters batch same none = rw (← same, none_later later batch) refl
none_counted (b ∷ bytes) later letters batch same none = absurd (omega arith)

pub start_is : (bytes later : List ℕ) (letters : List Letter) (k place : ℕ) → IsBatch bytes (starts_of bytes later) → letters_at bytes (starts_of bytes later) ≡ letters → k < length letters → slice_get (0 ∷ later) k ≡ Some place → place ≡ get_or (starts_of bytes later) k place
start_is [] later letters k place batch same lt at =
    absurd (omega (arith, lt, none_counted [] later letters batch same refl))
start_is (b ∷ bytes) later letters k place batch same lt at = sym (get_or_from_slice_get (0 ∷ later) k place place at)

held_at : (before : List ℕ) (letters : List Letter) (k d : ℕ) → All Fits letters → k < length letters → IsHeld (before ++ spelling letters) (get_or (places_from (length before) letters) k d)
held_at before [] k d fit lt = absurd (omega arith)
held_at before (l ∷ letters) zero d fit lt =
    let fits = fit 0 l (omega arith) in
    let rest : drop (length before) (before ++ spelling (l ∷ letters)) ≡ spelled_letter l ++ spelling letters = drop_at before (spelling (l ∷ letters)) (length before) refl in
    let stated = stated_again l (spelling letters) fits in
    record {
      inside = omega (arith, length-append before (spelling (l ∷ letters)));
      short = rw (rest, stated) fits.body_short;
      whole = rw (rest, stated) (omega (arith, length-append l.body (spelling letters)));
    }
held_at before (l ∷ letters) (suc k) d fit lt =
    let regrouped : (before ++ spelled_letter l) ++ spelling letters ≡ before ++ spelling (l ∷ letters) = append_assoc before (spelled_letter l) (spelling letters) in
    let other = held_at (before ++ spelled_letter l) letters k d (All-tail Fits l letters fit) (omega arith) in
    rw (← regrouped, ← length-append before (spelled_letter l)) other

pub held : (bytes starts : List ℕ) (letters : List Letter) (k place : ℕ) → IsBatch bytes starts → letters_at bytes starts ≡ letters → k < length letters → place ≡ get_or starts k place → IsHeld bytes place
held bytes starts letters k place batch same lt at =
    let lt2 : k < length (letters_at bytes starts) = rw same lt in
    let one : IsHeld (spelling (letters_at bytes starts)) (get_or (places_from 0 (letters_at bytes starts)) k place) = held_at [] (letters_at bytes starts) k place batch.fit lt2 in
    subst (λ (b : List ℕ). IsHeld b place) (sym batch.spelled) (subst (λ (p : ℕ). IsHeld (spelling (letters_at bytes starts)) p) (sym (at ∙ ap (λ (p : List ℕ). get_or p k place) batch.placed)) one)

pub found : (bytes starts : List ℕ) (letters : List Letter) (k place : ℕ) → letters_at bytes starts ≡ letters → k < length letters → place ≡ get_or starts k place → slice_get letters k ≡ Some (first_letter (drop place bytes))
found bytes starts letters k place same lt at =
    let lt2 : k < length (letters_at bytes starts) = rw same lt in
    let lt3 : k < length starts = rw length-map at lt2 in
    rw (← same) (slice_get-map (λ p. first_letter (drop p bytes)) starts k ∙ ap (option_map (λ p. first_letter (drop p bytes))) (slice_get-get_or starts k place lt3 ∙ ap Some (sym at)))
