-- Lists of records, of which one changes: what becomes of one of their fields.
use Rattle.std.proofs.Common.{◌≡◌, ℕ, ◌+◌, ◌<◌, Some, List, [], ◌∷◌, ◌++◌, length, map, get_or, set, slice_get, replicate, sym, ap, ◌∙◌, arith}
use Rattle.std.specs.Option.{option_map}
use Rattle.std.proofs.lemmas.List.{map-set, map-append, set-get_or, get_or-map, get_or-set_same, length-map, replicate_more}
use Rattle.std.proofs.lemmas.Option.{slice_get-map}
use Rattle.list_facts.proofs.Places.{same_item}

module _ {X Y : Type 0} (f : X → Y) where
  -- x stands for any record
  pub field_set : (xs : List X) (i : ℕ) (x now : X) (e : Y) (g : Y → Y) → i < length xs → f now ≡ g (f (get_or xs i x)) →
      map f (set xs i now) ≡ set (map f xs) i (g (get_or (map f xs) i e))
  field_set xs i x now e g within change =
      map-set f xs i now ∙ ap (λ y. set (map f xs) i y) (change ∙ ap g (sym (get_or-map f xs i x e within)))

  pub field_kept : (xs : List X) (i : ℕ) (x now : X) → i < length xs → f now ≡ f (get_or xs i x) → map f (set xs i now) ≡ map f xs
  field_kept xs i x now within same = field_set xs i x now (f x) (λ y. y) within same ∙ set-get_or (map f xs) i (f x)

  -- of the record that was changed
  pub field_now : (xs : List X) (i : ℕ) (now : X) (e : Y) → i < length xs → get_or (map f (set xs i now)) i e ≡ f now
  field_now xs i now e within =
      ap (λ ys. get_or ys i e) (map-set f xs i now) ∙ get_or-set_same (map f xs) i (f now) e (omega (arith, length-map xs f))

  -- of the record at a place
  pub field_at : (xs : List X) (i : ℕ) (x : X) (y : Y) → slice_get xs i ≡ Some x → slice_get (map f xs) i ≡ Some y → f x ≡ y
  field_at xs i x y at is = same_item (map f xs) i (f x) y (slice_get-map f xs i ∙ ap (option_map f) at) is

  -- ---- by the list of the fields

  pub field_read : (xs : List X) (ys : List Y) (i : ℕ) (x : X) (e : Y) → map f xs ≡ ys → i < length ys → x ≡ get_or xs i x → f x ≡ get_or ys i e
  field_read xs ys i x e same within at =
      let inside : i < length xs = omega (arith, ap length same, length-map xs f) in
      ap f at ∙ sym (get_or-map f xs i x e inside) ∙ ap (λ zs. get_or zs i e) same

  pub field_written : (xs : List X) (ys : List Y) (i : ℕ) (now : X) (y : Y) → map f xs ≡ ys → f now ≡ y → map f (set xs i now) ≡ set ys i y
  field_written xs ys i now y same is = map-set f xs i now ∙ ap (λ zs. set zs i (f now)) same ∙ ap (set ys i) is

  pub field_same : (xs : List X) (ys : List Y) (i : ℕ) (x now : X) → map f xs ≡ ys → i < length ys → x ≡ get_or xs i x → f now ≡ f x → map f (set xs i now) ≡ ys
  field_same xs ys i x now same within at is =
      field_written xs ys i now (get_or ys i (f x)) same (is ∙ field_read xs ys i x (f x) same within at) ∙ set-get_or ys i (f x)

  -- one record more of those that have the same there
  pub field_more : (xs now : List X) (x : X) (n : ℕ) (y : Y) → map f xs ≡ replicate n y → f x ≡ y → now ≡ xs ++ x ∷ [] → map f now ≡ replicate (n + 1) y
  field_more xs now x n y all one is =
      ap (map f) is ∙ map-append f xs (x ∷ []) ∙ ap (λ ys. ys ++ f x ∷ []) all ∙ ap (λ z. replicate n y ++ z ∷ []) one ∙ replicate_more n y
