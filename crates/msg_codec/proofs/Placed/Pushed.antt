-- A batch with one letter more.
use Rattle.std.proofs.Common.{◌≡◌, ◌≢◌, ℕ, ◌+◌, List, [], ◌∷◌, ◌++◌, length, All, Result, Ok, Err, refl, sym, ap, subst, ◌∙◌, append_assoc, arith, add-zero, zero-add, length-append}
use Rattle.std.specs.Prelude.{OnOk, OnErr}
use Rattle.std.specs.declared.alloc.AllocError.{AllocError}
use Rattle.std.proofs.lemmas.List.{append-nil}
use Rattle.std.proofs.lemmas.List.Elements.{All-nil, All-push}
use Rattle.std.proofs.lemmas.Grind.{flat_map-append}
use Rattle.msg_codec.specs.declared.letter.Letter.{Letter}
use Rattle.msg_codec.specs.Kept.{LetterAppended}
use Rattle.msg_codec.specs.Spelling.{header, spelled_letter, spelling}
use Rattle.msg_codec.specs.Placed.{Fits, letters_at, starts_of, places_from, IsBatch}
use Rattle.msg_codec.proofs.Placed.Letters.{is_batch, letters_again, none_later}

-- the header, then the body
pub appended : (old mid new head : List ℕ) (l : Letter) → head ≡ header l → mid ≡ old ++ head → new ≡ mid ++ l.body → new ≡ old ++ spelled_letter l
appended old mid new head l head-is mid-is new-is =
    new-is ∙ ap (λ (x : List ℕ). x ++ l.body) (mid-is ∙ ap (λ (x : List ℕ). old ++ x) head-is) ∙ append_assoc old (header l) l.body

pub spelling_push : (letters : List Letter) (l : Letter) → spelling (letters ++ l ∷ []) ≡ spelling letters ++ spelled_letter l
spelling_push letters l = flat_map-append spelled_letter letters (l ∷ []) ∙ ap (λ (x : List ℕ). spelling letters ++ x) (append-nil (spelled_letter l))

pub places_push : (place : ℕ) (letters : List Letter) (l : Letter) → places_from place (letters ++ l ∷ []) ≡ places_from place letters ++ (place + length (spelling letters)) ∷ []
places_push place [] l = rw add-zero refl
places_push place (x ∷ letters) l =
    let so_far : (place + length (spelled_letter x)) + length (spelling letters) ≡ place + length (spelling (x ∷ letters)) = omega (arith, length-append (spelled_letter x) (spelling letters)) in
    ap (λ (places : List ℕ). place ∷ places) (rw (← so_far) (places_push (place + length (spelled_letter x)) letters l))

-- a batch with one letter more
pub record IsPushed (bytes starts : List ℕ) (l : Letter) : Type 0 where
  pub letters : letters_at (bytes ++ spelled_letter l) (starts ++ length bytes ∷ []) ≡ letters_at bytes starts ++ l ∷ []
  pub whole : IsBatch (bytes ++ spelled_letter l) (starts ++ length bytes ∷ [])

pub pushed : (bytes starts : List ℕ) (l : Letter) → IsBatch bytes starts → Fits l → IsPushed bytes starts l
pushed bytes starts l batch fits =
    let old = letters_at bytes starts in
    let fit : All Fits (old ++ l ∷ []) = All-push Fits old l batch.fit fits in
    let same_bytes : spelling (old ++ l ∷ []) ≡ bytes ++ spelled_letter l = spelling_push old l ∙ ap (λ (x : List ℕ). x ++ spelled_letter l) (sym batch.spelled) in
    let same_starts : places_from 0 (old ++ l ∷ []) ≡ starts ++ length bytes ∷ [] = places_push 0 old l ∙ ap (λ (n : ℕ). places_from 0 old ++ n ∷ []) (zero-add (length (spelling old))) ∙ ap (λ (p : List ℕ). p ++ length (spelling old) ∷ []) (sym batch.placed) ∙ ap (λ (b : List ℕ). starts ++ length b ∷ []) (sym batch.spelled) in
    record {
      letters = subst (λ (b : List ℕ). letters_at b (starts ++ length bytes ∷ []) ≡ old ++ l ∷ []) same_bytes (subst (λ (p : List ℕ). letters_at (spelling (old ++ l ∷ [])) p ≡ old ++ l ∷ []) same_starts (letters_again [] (old ++ l ∷ []) fit));
      whole = subst (λ (b : List ℕ). IsBatch b (starts ++ length bytes ∷ [])) same_bytes (subst (λ (p : List ℕ). IsBatch (spelling (old ++ l ∷ [])) p) same_starts (is_batch (old ++ l ∷ []) fit));
    }

-- bytes and later starts after a push: with the letter last, unless out of memory, and a batch either way
pub record IsPut (answer : Result (Unit {0}) AllocError) (bytes later new newer : List ℕ) (l : Letter) : Type 0 where
  pub letters : OnOk answer (letters_at new (starts_of new newer) ≡ letters_at bytes (starts_of bytes later) ++ l ∷ [])
  pub whole : IsBatch new (starts_of new newer)

is_put : (done : Unit {0}) (bytes later new newer : List ℕ) (l : Letter) → IsPushed bytes (starts_of bytes later) l → new ≡ bytes ++ spelled_letter l → starts_of new newer ≡ starts_of bytes later ++ length bytes ∷ [] → IsPut (Ok done) bytes later new newer l
is_put done bytes later new newer l one new-is starts-are =
    record { letters = rw (starts-are, new-is) one.letters; whole = rw (starts-are, new-is) one.whole }

-- the first letter begins at 0, which isn't kept
pub first_put : (answer : Result (Unit {0}) AllocError) (bytes later new : List ℕ) (l : Letter) → IsBatch bytes (starts_of bytes later) → length bytes ≡ 0
    → OnOk answer (LetterAppended bytes new l) → OnErr answer (new ≡ bytes) → IsPut answer bytes later new later l
first_put (Err full) bytes later new l batch none put kept = record { letters = tt; whole = rw kept batch }
first_put (Ok done) [] later new l batch none put kept =
    is_put done [] later new later l (pushed [] later l batch put.fits) put.bytes (rw (put.bytes, none_later later batch) refl)
first_put (Ok done) (b ∷ bytes) later new l batch none put kept = absurd (omega arith)

pub later_put : (bytes later new newer : List ℕ) (l : Letter) → IsBatch bytes (starts_of bytes later) → length bytes ≢ 0 → LetterAppended bytes new l → newer ≡ later ++ length bytes ∷ [] → IsPut (Ok tt) bytes later new newer l
later_put [] later new newer l batch some put start-put = absurd (some refl)
later_put (b ∷ bytes) later new newer l batch some put start-put =
    is_put tt (b ∷ bytes) later new newer l (pushed (b ∷ bytes) (0 ∷ later) l batch put.fits) put.bytes (rw (put.bytes, start-put) refl)

-- a batch of one letter
pub one_put : (bytes later : List ℕ) (l : Letter) → later ≡ [] → bytes ≡ spelled_letter l → Fits l → IsPut (Ok tt) [] [] bytes later l
one_put bytes later l none spelled fits =
    rw none (first_put (Ok tt) [] [] bytes l (is_batch [] (All-nil Fits)) refl (record { bytes = spelled; fits = fits }) tt)
