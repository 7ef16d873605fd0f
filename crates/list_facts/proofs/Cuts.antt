-- A list that is cut in two, in one way or in two ways.
use Rattle.std.proofs.Common.{◌≡◌, ◌≢◌, ℕ, ◌<◌, ◌≤◌, List, [], ◌∷◌, ◌++◌, length, take, drop, refl, sym, ap, ◌∙◌, arith, length-append, length-drop}
use Rattle.std.proofs.lemmas.List.{take_at, drop_at, take-append-drop, take-append-le, drop-append-le}

-- something follows the first part
pub shorter_part : {X : Type 0} (whole front back : List X) → whole ≡ front ++ back → back ≢ [] → length front < length whole
shorter_part whole front [] e some = absurd (some refl)
shorter_part whole front (x ∷ back) e some = omega (arith, ap length e, length-append front (x ∷ back))

pub some_dropped : {X : Type 0} (xs : List X) (k : ℕ) → k < length xs → drop k xs ≢ []
some_dropped xs k lt e = omega (arith, lt, length-drop k xs, ap length e)

-- the earlier cut is in the first part of the later one
pub cut_first : {X : Type 0} (xs ys front back : List X) → xs ++ ys ≡ front ++ back → length front ≤ length xs → xs ≡ front ++ drop (length front) xs
cut_first xs ys front back e le =
    let same : take (length front) xs ≡ front = sym (take-append-le (length front) xs ys le) ∙ ap (take (length front)) e ∙ take_at front back (length front) refl in
    sym (take-append-drop (length front) xs) ∙ ap (λ part. part ++ drop (length front) xs) same

-- and the later one is in the second part of the earlier one
pub cut_second : {X : Type 0} (xs ys front back : List X) → xs ++ ys ≡ front ++ back → length xs ≤ length front → ys ≡ drop (length xs) front ++ back
cut_second xs ys front back e le = sym (drop_at xs ys (length xs) refl) ∙ ap (drop (length xs)) e ∙ drop-append-le (length xs) front back le
