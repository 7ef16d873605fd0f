-- The letters of a batch are those that it encodes.
use Rattle.std.proofs.Common.{◌≡◌, ℕ, ◌+◌, List, [], ◌∷◌, ◌++◌, length, drop, All, refl, sym, ap, subst, append_assoc, arith, length-append}
use Rattle.std.proofs.lemmas.List.{drop_at}
use Rattle.std.proofs.lemmas.List.Elements.{All-tail}
use Rattle.msg_codec.specs.declared.letter.Letter.{Letter}
use Rattle.msg_codec.specs.Spelling.{spelled_letter, spelling}
use Rattle.msg_codec.specs.Placed.{Fits, first_letter, letters_at, places_from, IsBatch}
use Rattle.msg_codec.proofs.Placed.First.{first_again}

pub letters_again : (before : List ℕ) (letters : List Letter) → All Fits letters → letters_at (before ++ spelling letters) (places_from (length before) letters) ≡ letters
letters_again before [] fit = refl
letters_again before (l ∷ letters) fit =
    let front : first_letter (drop (length before) (before ++ spelling (l ∷ letters))) ≡ l = rw (drop_at before (spelling (l ∷ letters)) (length before) refl) (first_again l (spelling letters) (fit 0 l (omega arith))) in
    let others = letters_again (before ++ spelled_letter l) letters (All-tail Fits l letters fit) in
    let regrouped : before ++ spelling (l ∷ letters) ≡ (before ++ spelled_letter l) ++ spelling letters = sym (append_assoc before (spelled_letter l) (spelling letters)) in
    let back : letters_at (before ++ spelling (l ∷ letters)) (places_from (length before + length (spelled_letter l)) letters) ≡ letters = rw (regrouped, ← length-append before (spelled_letter l)) others in
    cc

pub is_batch : (letters : List Letter) → All Fits letters → IsBatch (spelling letters) (places_from 0 letters)
is_batch letters fit =
    let again = sym (letters_again [] letters fit) in
    record { spelled = ap spelling again; placed = ap (places_from 0) again; fit = subst (All Fits) again fit }

pub none_later : (later : List ℕ) → IsBatch [] later → later ≡ []
none_later [] batch = refl
none_later (start ∷ later) batch =
    let spelled : [] ≡ spelling (letters_at [] (start ∷ later)) = batch.spelled in
    absurd cc
