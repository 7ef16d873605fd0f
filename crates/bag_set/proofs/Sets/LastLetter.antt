-- Whether an item is in a set is decided by the last letter of that item. A set sends nothing.
use Rattle.std.proofs.Common.{◌≡◌, ◌≢◌, ◌↔◌, inl, inr, ℕ, Bool, true, false, cond, List, [], ◌∷◌, ◌++◌, Option, None, Some, All, Contains, refl, sym, ap, ◌∙◌, arith}
use Rattle.std.specs.Prelude.{◌==◌}
use Rattle.std.proofs.lemmas.List.Elements.{All-head, All-tail}
use Rattle.msg_codec.specs.declared.letter.Letter.{Letter}
use Rattle.comm_rank.specs.Fold.{fold_from, handed_from}
use Rattle.comm_rank.proofs.Fold.Appended.{fold-append}
use Rattle.owner_send.specs.Item.{item_of}
use Rattle.bag_set.specs.Sets.{IsOf, Items, has, inserted_if, inserts, erased_if, erases, set_apply}
use Rattle.bag_set.proofs.Sets.Has.{absent, has-erased, has-erased_other, has-inserted, has-inserted_other, has_there, there}

-- ---- one letter

inserted_if-other : (o : Option (List ℕ)) (item : List ℕ) (items : Items) → o ≢ Some item → has (inserted_if o items) item ≡ has items item
inserted_if-other None item items ne = refl
inserted_if-other (Some x) item items ne = has-inserted_other x item items (λ same. ne (ap Some same))

erased_if-other : (o : Option (List ℕ)) (item : List ℕ) (items : Items) → o ≢ Some item → has (erased_if o items) item ≡ has items item
erased_if-other None item items ne = refl
erased_if-other (Some x) item items ne = has-erased_other x item items (λ same. ne (ap Some same))

-- a letter of another item
other_letter : (here ranks : ℕ) (contents : Items) (l : Letter) (item : List ℕ) → ¬ IsOf item l → has (set_apply contents here ranks l).0 item ≡ has contents item
other_letter here ranks contents l item other =
    erased_if-other (erases l) item (inserted_if (inserts l) contents) (λ e. other (inr e))
    ∙ inserted_if-other (inserts l) item contents (λ e. other (inl e))

-- an insert doesn't erase
insert_only : (l : Letter) (item : List ℕ) → inserts l ≡ Some item → erases l ≡ None
insert_only l item e = by (l.tag == 3) (l.tag == 4) (item_of l.body) e (λ t. let three : l.tag ≡ 3 = grind arith in grind arith)
  where
    by : (b c : Bool) (o : Option (List ℕ)) → cond b o None ≡ Some item → (b ≡ true → c ≡ false) → cond c o None ≡ None
    by true c o e f = rw (f refl) refl
    by false c o e f = absurd cc

insert_there : (here ranks : ℕ) (contents : Items) (l : Letter) (item : List ℕ) → inserts l ≡ Some item → has (set_apply contents here ranks l).0 item ≡ true
insert_there here ranks contents l item e = rw (insert_only l item e, e) (has-inserted item contents)

erase_gone : (here ranks : ℕ) (contents : Items) (l : Letter) (item : List ℕ) → erases l ≡ Some item → has (set_apply contents here ranks l).0 item ≡ false
erase_gone here ranks contents l item e = rw e (has-erased item (inserted_if (inserts l) contents))

-- ---- many letters

other_letters : (here ranks : ℕ) (contents : Items) (letters : List Letter) (item : List ℕ) → All (λ l. ¬ IsOf item l) letters → has (fold_from set_apply here ranks contents letters) item ≡ has contents item
other_letters here ranks contents [] item others = refl
other_letters here ranks contents (l ∷ ls) item others =
    other_letters here ranks (set_apply contents here ranks l).0 ls item (All-tail (λ l. ¬ IsOf item l) l ls others)
    ∙ other_letter here ranks contents l item (All-head (λ l. ¬ IsOf item l) l ls others)

after_last : (here ranks : ℕ) (contents : Items) (before after : List Letter) (l : Letter) (item : List ℕ) (b : Bool) →
    ((items : Items) → has (set_apply items here ranks l).0 item ≡ b) → All (λ later. ¬ IsOf item later) after →
    has (fold_from set_apply here ranks contents (before ++ l ∷ after)) item ≡ b
after_last here ranks contents before after l item b decides others =
    let first = fold_from set_apply here ranks contents before in
    ap (λ is. has is item) (fold-append set_apply here ranks contents before (l ∷ after))
    ∙ other_letters here ranks (set_apply first here ranks l).0 after item others
    ∙ decides first

pub after_insert : (here ranks : ℕ) (contents : Items) (before after : List Letter) (l : Letter) (item : List ℕ) → inserts l ≡ Some item → All (λ later. ¬ IsOf item later) after →
    Contains (fold_from set_apply here ranks contents (before ++ l ∷ after)) item
after_insert here ranks contents before after l item e others =
    there (fold_from set_apply here ranks contents (before ++ l ∷ after)) item (after_last here ranks contents before after l item true (λ items. insert_there here ranks items l item e) others)

pub after_erase : (here ranks : ℕ) (contents : Items) (before after : List Letter) (l : Letter) (item : List ℕ) → erases l ≡ Some item → All (λ later. ¬ IsOf item later) after →
    ¬ Contains (fold_from set_apply here ranks contents (before ++ l ∷ after)) item
after_erase here ranks contents before after l item e others =
    absent (fold_from set_apply here ranks contents (before ++ l ∷ after)) item (after_last here ranks contents before after l item false (λ items. erase_gone here ranks items l item e) others)

pub after_neither : (here ranks : ℕ) (contents : Items) (letters : List Letter) (item : List ℕ) → All (λ l. ¬ IsOf item l) letters →
    Contains (fold_from set_apply here ranks contents letters) item ↔ Contains contents item
after_neither here ranks contents letters item others =
    let now = fold_from set_apply here ranks contents letters in
    let same = other_letters here ranks contents letters item others in (
      λ h. there contents item (sym same ∙ has_there now item h),
      λ h. there now item (same ∙ has_there contents item h),
    )

pub handed-none : (here ranks : ℕ) (contents : Items) (letters : List Letter) → handed_from set_apply here ranks contents letters ≡ []
handed-none here ranks contents [] = refl
handed-none here ranks contents (l ∷ ls) = handed-none here ranks (set_apply contents here ranks l).0 ls
