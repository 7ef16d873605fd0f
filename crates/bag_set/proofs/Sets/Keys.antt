-- The keys of a hash set, as the items of a set.
use Rattle.std.proofs.Common.{◌≡◌, ◌||◌, inl, inr, ℕ, Bool, true, false, cond, not, List, [], ◌∷◌, map, refl, sym, ap, ◌∙◌}
use Rattle.std.specs.Prelude.{bytes_eq}
use Rattle.std.specs.List.{list_any, AllByRecursion}
use Rattle.std.proofs.lemmas.Bool.{cases_Bool}
use Rattle.std.proofs.lemmas.List.{map-append}
use Rattle.indexmap.specs.IndexSet.{insert_key, remove_key}
use Rattle.list_facts.proofs.Filters.{filter_all}
use Rattle.list_facts.proofs.Tests.{or_false_first, or_false_second}
use Rattle.bag_set.specs.Sets.{has, inserted, erased}

module _ {K : Type 0} (bytes : K → List ℕ) where
  abbrev pub is_key : List ℕ → K → Bool
  is_key item k = bytes_eq item (bytes k)

  pub has-keys : (item : List ℕ) (ks : List K) → list_any (is_key item) ks ≡ has (map bytes ks) item
  has-keys item [] = refl
  has-keys item (k ∷ ks) = ap (λ b. is_key item k || b) (has-keys item ks)

  pub inserted-key : (k : K) (ks : List K) → map bytes (insert_key (λ x y. bytes_eq (bytes x) (bytes y)) ks k) ≡ inserted (bytes k) (map bytes ks)
  inserted-key k ks =
      elim (cases_Bool (list_any (is_key (bytes k)) ks)) [
        | inl t ↦ rw (t, sym (has-keys (bytes k) ks) ∙ t) refl
        | inr t ↦ rw (t, sym (has-keys (bytes k) ks) ∙ t) (map-append bytes ks (k ∷ []))
      ]

  none_equal : (item : List ℕ) (ks : List K) → list_any (is_key item) ks ≡ false → AllByRecursion (λ other. not (bytes_eq item other) ≡ true) (map bytes ks)
  none_equal item [] none = tt
  none_equal item (k ∷ ks) none =
      let first : is_key item k ≡ false = or_false_first (is_key item k) (list_any (is_key item) ks) none in
      (rw first refl, none_equal item ks (or_false_second (is_key item k) (list_any (is_key item) ks) none))

  -- where the first of an item is taken out, and none is left, all of it are
  pub erased-key : (item : List ℕ) (ks : List K) → list_any (is_key item) (remove_key (is_key item) ks) ≡ false → map bytes (remove_key (is_key item) ks) ≡ erased item (map bytes ks)
  erased-key item [] none = refl
  erased-key item (k ∷ ks) none = by (erased-key item ks) (is_key item k) refl none
    where
      by : (list_any (is_key item) (remove_key (is_key item) ks) ≡ false → map bytes (remove_key (is_key item) ks) ≡ erased item (map bytes ks)) →
          (b : Bool) → is_key item k ≡ b → list_any (is_key item) (cond b ks (k ∷ remove_key (is_key item) ks)) ≡ false →
          map bytes (cond b ks (k ∷ remove_key (is_key item) ks)) ≡ cond (not b) (bytes k ∷ erased item (map bytes ks)) (erased item (map bytes ks))
      by later true e left = sym (filter_all (λ other. not (bytes_eq item other)) (map bytes ks) (none_equal item ks left))
      by later false e left = ap (λ items. bytes k ∷ items) (later (or_false_second (is_key item k) (list_any (is_key item) (remove_key (is_key item) ks)) left))
