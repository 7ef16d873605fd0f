-- What is under a name after an addition.
use Rattle.std.proofs.Common.{◌≡◌, ◌≢◌, ℕ, true, false, cond, List, [], ◌∷◌, ◌++◌, Some, reverse, refl, sym, ap}
use Rattle.std.proofs.lemmas.Bool.{false_from_ne_true}
use Rattle.std.proofs.lemmas.List.{reverse-append}
use Rattle.std.proofs.lemmas.Slice.Eq.{bytes_eq-Decides}
use Rattle.std.specs.Str.{bytes_eq}
use Rattle.std.specs.Option.{option_map}
use Rattle.std.specs.List.{find}
use Rattle.ygm_io.specs.ByName.{last_named}

module _ {T : Type 0} (added : List (List ℕ × T)) (name : List ℕ) (value : T) where
  first_tested : (other : List ℕ) → last_named other (added ++ (name, value) ∷ []) ≡ option_map (λ entry. entry.1) (cond (bytes_eq name other) (Some (name, value)) (find (λ entry. bytes_eq entry.0 other) (reverse added)))
  first_tested other = ap (λ (all : List (List ℕ × T)). option_map (λ entry. entry.1) (find (λ entry. bytes_eq entry.0 other) all)) (reverse-append added ((name, value) ∷ []))

  -- under its own name, what was added
  pub last_same : last_named name (added ++ (name, value) ∷ []) ≡ Some value
  last_same = let same : bytes_eq name name ≡ true = (bytes_eq-Decides name name).1 refl in
      rw (first_tested name, same) refl

  -- under another name, what was there before
  pub last_other : (other : List ℕ) → other ≢ name → last_named other (added ++ (name, value) ∷ []) ≡ last_named other added
  last_other other differs =
      let other_name : bytes_eq name other ≡ false = false_from_ne_true (bytes_eq name other) (λ same. differs (sym ((bytes_eq-Decides name other).0 same))) in
      rw (first_tested other, other_name) refl
