-- Which items are there after an insert and after an erase.
use Rattle.std.proofs.Common.{◌≡◌, ◌≢◌, ◌↔◌, ◌||◌, inl, inr, ℕ, Bool, true, false, cond, not, List, [], ◌∷◌, ◌++◌, Contains, refl, sym, ap, ◌∙◌, true≢false}
use Rattle.std.specs.Prelude.{bytes_eq}
use Rattle.std.proofs.lemmas.Bool.{cases_Bool, false_from_ne_true}
use Rattle.std.proofs.lemmas.Slice.Eq.{bytes_eq-Decides}
use Rattle.std.proofs.lemmas.List.Folds.{list_any-append, list_any_at}
use Rattle.indexmap.proofs.CallerLemmas.{Contains-list_any}
use Rattle.list_facts.proofs.Equal.{bytes_eq-other, bytes_eq-same, cases_same}
use Rattle.bag_set.specs.Sets.{Items, has, inserted, erased}

-- ---- the test, and its meaning

pub there : (items : Items) (item : List ℕ) → has items item ≡ true → Contains items item
there items item h = Contains-list_any bytes_eq (λ x y e. (bytes_eq-Decides x y).0 e) items item h

pub has_there : (items : Items) (item : List ℕ) → Contains items item → has items item ≡ true
has_there items item h = list_any_at (bytes_eq item) items h.0 item h.1 (ap (bytes_eq item) h.2 ∙ bytes_eq-same item)

pub has_absent : (items : Items) (item : List ℕ) → ¬ Contains items item → has items item ≡ false
has_absent items item absent = false_from_ne_true (has items item) (λ h. absent (there items item h))

pub absent : (items : Items) (item : List ℕ) → has items item ≡ false → ¬ Contains items item
absent items item h is = true≢false (sym (has_there items item is) ∙ h)

-- ---- an insert

pub inserted_known : (item : List ℕ) (items : Items) → has items item ≡ true → inserted item items ≡ items
inserted_known item items h = rw h refl

pub inserted_new : (item : List ℕ) (items : Items) → has items item ≡ false → inserted item items ≡ items ++ item ∷ []
inserted_new item items h = rw h refl

pub has-inserted : (item : List ℕ) (items : Items) → has (inserted item items) item ≡ true
has-inserted item items =
    elim (cases_Bool (has items item)) [
      | inl h ↦ ap (λ is. has is item) (inserted_known item items h) ∙ h
      | inr h ↦ ap (λ is. has is item) (inserted_new item items h) ∙ list_any-append (bytes_eq item) items (item ∷ []) ∙ rw (h, bytes_eq-same item) refl
    ]

pub has-inserted_other : (item other : List ℕ) (items : Items) → item ≢ other → has (inserted item items) other ≡ has items other
has-inserted_other item other items ne =
    elim (cases_Bool (has items item)) [
      | inl h ↦ ap (λ is. has is other) (inserted_known item items h)
      | inr h ↦
          let apart : bytes_eq other item ≡ false = bytes_eq-other other item (λ e. ne (sym e)) in
          ap (λ is. has is other) (inserted_new item items h) ∙ list_any-append (bytes_eq other) items (item ∷ []) ∙ last (has items other) (bytes_eq other item) apart
    ]
  where
    last : (a b : Bool) → b ≡ false → (a || (b || false)) ≡ a
    last true b e = refl
    last false b e = rw e refl

-- ---- an erase

pub has-erased : (item : List ℕ) (items : Items) → has (erased item items) item ≡ false
has-erased item [] = refl
has-erased item (x ∷ xs) = by (has-erased item xs) (bytes_eq item x) refl
  where
    by : has (erased item xs) item ≡ false → (b : Bool) → bytes_eq item x ≡ b → has (cond (not b) (x ∷ erased item xs) (erased item xs)) item ≡ false
    by later true e = later
    by later false e = rw (e, later) refl

pub has-erased_other : (item other : List ℕ) (items : Items) → item ≢ other → has (erased item items) other ≡ has items other
has-erased_other item other [] ne = refl
has-erased_other item other (x ∷ xs) ne =
    elim (cases_same item x) [
      | inl same ↦
          let gone : bytes_eq item x ≡ true = ap (bytes_eq item) (sym same) ∙ bytes_eq-same item in
          let apart : bytes_eq other x ≡ false = bytes_eq-other other x (λ e. ne (same ∙ sym e)) in
          rw (gone, apart) (has-erased_other item other xs ne)
      | inr differ ↦ rw (bytes_eq-other item x differ) (ap (λ b. bytes_eq other x || b) (has-erased_other item other xs ne))
    ]

pub erased_others : (item other : List ℕ) (items : Items) → Contains (erased item items) other ↔ (Contains items other × other ≢ item)
erased_others item other items = (
  λ h. elim (cases_same item other) [
    | inl same ↦ absurd (absent (erased item items) item (has-erased item items) (same_there h same))
    | inr ne ↦ (there items other (sym (has-erased_other item other items ne) ∙ has_there (erased item items) other h), λ e. ne (sym e))
  ],
  λ h. there (erased item items) other (has-erased_other item other items (λ e. h.1 (sym e)) ∙ has_there items other h.0),
)
  where
    same_there : Contains (erased item items) other → item ≡ other → Contains (erased item items) item
    same_there h same = there (erased item items) item (ap (has (erased item items)) same ∙ has_there (erased item items) other h)
