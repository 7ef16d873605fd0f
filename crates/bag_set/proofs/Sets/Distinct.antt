-- No item is twice in a set.
use Rattle.std.proofs.Common.{◌≡◌, inl, inr, ℕ, Bool, true, false, cond, not, List, [], ◌∷◌, filter, Option, None, Some, sym, subst}
use Rattle.std.specs.Prelude.{bytes_eq}
use Rattle.std.specs.Cmp.Lexicographic.{nat_list_eq_equiv}
use Rattle.std.specs.List.{AllByRecursion, IsDistinct}
use Rattle.std.proofs.lemmas.Bool.{cases_Bool}
use Rattle.std.proofs.lemmas.Map.Keys.{IsDistinct-push}
use Rattle.msg_codec.specs.declared.letter.Letter.{Letter}
use Rattle.comm_rank.specs.Fold.{fold_from}
use Rattle.bag_set.specs.Sets.{Items, has, inserted, inserted_if, inserts, erased_if, erases, set_apply}
use Rattle.bag_set.proofs.Sets.Has.{inserted_known, inserted_new}

kept-all : {X : Type 0} (P : X → Type 0) (test : X → Bool) (xs : List X) → AllByRecursion P xs → AllByRecursion P (filter test xs)
kept-all P test [] h = tt
kept-all P test (x ∷ xs) h = by (test x) (kept-all P test xs h.1)
  where
    by : (b : Bool) → AllByRecursion P (filter test xs) → AllByRecursion P (cond b (x ∷ filter test xs) (filter test xs))
    by true later = (h.0, later)
    by false later = later

kept-distinct : {X : Type 0} (eq : X → X → Bool) (test : X → Bool) (xs : List X) → IsDistinct eq xs → IsDistinct eq (filter test xs)
unfolding IsDistinct
kept-distinct eq test [] h = tt
kept-distinct eq test (x ∷ xs) h = by (test x) (kept-distinct eq test xs h.1)
  where
    by : (b : Bool) → IsDistinct eq (filter test xs) → IsDistinct eq (cond b (x ∷ filter test xs) (filter test xs))
    by true later = (kept-all (λ y. eq x y ≡ false) test xs h.0, later)
    by false later = later

distinct-inserted : (item : List ℕ) (items : Items) → IsDistinct bytes_eq items → IsDistinct bytes_eq (inserted item items)
distinct-inserted item items d =
    elim (cases_Bool (has items item)) [
      | inl h ↦ subst (IsDistinct bytes_eq) (sym (inserted_known item items h)) d
      | inr h ↦ subst (IsDistinct bytes_eq) (sym (inserted_new item items h)) (IsDistinct-push nat_list_eq_equiv items item d h)
    ]

distinct-inserted_if : (o : Option (List ℕ)) (items : Items) → IsDistinct bytes_eq items → IsDistinct bytes_eq (inserted_if o items)
distinct-inserted_if None items d = d
distinct-inserted_if (Some item) items d = distinct-inserted item items d

distinct-erased_if : (o : Option (List ℕ)) (items : Items) → IsDistinct bytes_eq items → IsDistinct bytes_eq (erased_if o items)
distinct-erased_if None items d = d
distinct-erased_if (Some item) items d = kept-distinct bytes_eq (λ other. not (bytes_eq item other)) items d

distinct-after : (here ranks : ℕ) (contents : Items) (letters : List Letter) → IsDistinct bytes_eq contents → IsDistinct bytes_eq (fold_from set_apply here ranks contents letters)
distinct-after here ranks contents [] d = d
distinct-after here ranks contents (l ∷ ls) d =
    distinct-after here ranks (set_apply contents here ranks l).0 ls (distinct-erased_if (erases l) (inserted_if (inserts l) contents) (distinct-inserted_if (inserts l) contents d))

pub no_item_is_there_twice : (here ranks : ℕ) (letters : List Letter) → IsDistinct bytes_eq (fold_from set_apply here ranks [] letters)
unfolding IsDistinct
no_item_is_there_twice here ranks letters = distinct-after here ranks [] letters tt
