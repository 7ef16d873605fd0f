-- Whether two lists of bytes are equal.
use Rattle.std.proofs.Common.{◌≡◌, ◌≢◌, ◌⊎◌, inl, inr, ℕ, Bool, true, false, List, refl, sym, ◌∙◌, true≢false}
use Rattle.std.specs.Prelude.{bytes_eq}
use Rattle.std.proofs.lemmas.Bool.{false_from_ne_true}
use Rattle.std.proofs.lemmas.Slice.Eq.{bytes_eq-Decides}

pub bytes_eq-same : (x : List ℕ) → bytes_eq x x ≡ true
bytes_eq-same x = (bytes_eq-Decides x x).1 refl

pub bytes_eq-other : (x y : List ℕ) → x ≢ y → bytes_eq x y ≡ false
bytes_eq-other x y other = false_from_ne_true (bytes_eq x y) (λ e. other ((bytes_eq-Decides x y).0 e))

pub bytes_eq-differ : (x y : List ℕ) → bytes_eq x y ≡ false → x ≢ y
bytes_eq-differ x y e same = true≢false (sym ((bytes_eq-Decides x y).1 same) ∙ e)

pub cases_same : (x y : List ℕ) → (x ≡ y) ⊎ (x ≢ y)
cases_same x y = by (bytes_eq x y) refl
  where
    by : (b : Bool) → bytes_eq x y ≡ b → (x ≡ y) ⊎ (x ≢ y)
    by true e = inl ((bytes_eq-Decides x y).0 e)
    by false e = inr (bytes_eq-differ x y e)
