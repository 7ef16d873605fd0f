-- After the rules on the whole deed, a batch is data letters, or one control letter.
use Rattle.std.proofs.Common.{◌≡◌, ℕ, ◌<◌, Bool, true, false, not, ◌&&◌, eqb-true, ltb-true, Some, List, [], ◌∷◌, slice_get, refl, sym, ap, ◌∙◌, subst, arith}
use Rattle.std.specs.List.{AllByRecursion}
use Rattle.std.proofs.lemmas.Bool.{false_from_ne_true, not-false}
use Rattle.list_facts.proofs.Elements.{both_of}
use Rattle.list_facts.proofs.Tests.{and_first, and_false_second}
use Rattle.msg_codec.specs.Control.{is_control, is_count, is_total}
use Rattle.msg_codec.specs.declared.letter.Letter.{Letter}
use Rattle.world_core.specs.Local.{Local}
use Rattle.world_core.specs.Pairs.{is_data}
use Rattle.world_core.specs.Rules.{bad_tag, mixed_control, some_letter_after}
use Rattle.world_core.specs.Rules.Deed.{Puts}
use Rattle.world_core.proofs.Deeds.SomeLetter.{letters_alike}
use Rattle.world_core.proofs.Deeds.Unmixed.{each_fails, no_control}

abbrev pub AreData : List Letter → Type 0
AreData letters = AllByRecursion (λ l. is_data l ≡ true) letters

-- ---- a letter is of one kind

pub data_not_count : (l : Letter) → is_data l ≡ true → is_count l ≡ false
data_not_count l tag = false_from_ne_true (is_count l) (λ count.
    let below : l.tag < 240 = ltb-true _ _ tag in
    let at : l.tag ≡ 240 = eqb-true _ _ (and_first _ _ count) in
    absurd (omega arith))

pub data_not_total : (l : Letter) → is_data l ≡ true → is_total l ≡ false
data_not_total l tag = false_from_ne_true (is_total l) (λ total.
    let below : l.tag < 240 = ltb-true _ _ tag in
    let at : l.tag ≡ 241 = eqb-true _ _ (and_first _ _ total) in
    absurd (omega arith))

pub control_not_data : (l : Letter) → is_control l ≡ true → is_data l ≡ false
control_not_data l control = false_from_ne_true (is_data l) (λ tag.
    let count : is_count l ≡ false = data_not_count l tag in
    let total : is_total l ≡ false = data_not_total l tag in
    let neither : is_control l ≡ false = rw (count, total) refl in
    absurd (let P : false ≡ true = sym neither ∙ control in cc))

-- one with a good tag is of one of the two
one_kind : (l : Letter) → (not (is_data l) && not (is_control l)) ≡ false → is_control l ≡ false → is_data l ≡ true
one_kind l tag plain = either (is_data l) refl
  where
    either : (b : Bool) → is_data l ≡ b → is_data l ≡ true
    either true h = h
    either false h = absurd (let bad : (not (is_data l) && not (is_control l)) ≡ true = rw (h, plain) refl in cc)

-- ---- a batch

tags_each : (me : Local) (to : ℕ) (letters : List Letter) → some_letter_after bad_tag [] letters me to ≡ false →
    AllByRecursion (λ l. (not (is_data l) && not (is_control l)) ≡ false) letters
tags_each me to letters tags =
    each_fails (bad_tag me to) letters (sym (letters_alike bad_tag (bad_tag me to) me to (λ before l. refl) [] letters) ∙ tags)

-- the first letter shows that all are data letters,
pub first_is_data : (me : Local) (to : ℕ) (letters : List Letter) (l : Letter) → slice_get letters 0 ≡ Some l →
    some_letter_after bad_tag [] letters me to ≡ false → mixed_control me (Puts to letters) ≡ false → is_data l ≡ true → AreData letters
first_is_data me to [] l first tags unmixed tag = tt
first_is_data me to (x ∷ []) l first tags unmixed tag = let same : x ≡ l = cc in (subst (λ y. is_data y ≡ true) (sym same) tag, tt)
first_is_data me to (x ∷ y ∷ more) l first tags unmixed tag =
    both_of (λ z. (not (is_data z) && not (is_control z)) ≡ false) (λ z. is_control z ≡ false) (λ z. is_data z ≡ true) (x ∷ y ∷ more) one_kind
    (tags_each me to (x ∷ y ∷ more) tags) (no_control me to x y more unmixed)

-- one control letter and no other
pub record IsLone (letters : List Letter) (l : Letter) : Type 0 where
  pub lone : letters ≡ l ∷ []
  pub control : is_control l ≡ true

-- or that it is alone
pub first_is_control : (me : Local) (to : ℕ) (letters : List Letter) (l : Letter) → slice_get letters 0 ≡ Some l →
    some_letter_after bad_tag [] letters me to ≡ false → mixed_control me (Puts to letters) ≡ false → is_data l ≡ false → IsLone letters l
first_is_control me to [] l first tags unmixed other = absurd cc
first_is_control me to (x ∷ []) l first tags unmixed other =
    let same : x ≡ l = cc in
    let tag : (not (is_data l) && not (is_control l)) ≡ false = subst (λ y. (not (is_data y) && not (is_control y)) ≡ false) same (tags_each me to (x ∷ []) tags).0 in
    record { lone = ap (λ y. y ∷ []) same; control = not-false _ (and_false_second _ _ (rw other refl) tag) }
first_is_control me to (x ∷ y ∷ more) l first tags unmixed other =
    let same : x ≡ l = cc in
    let plain : is_control l ≡ false = subst (λ z. is_control z ≡ false) same (no_control me to x y more unmixed).0 in
    let tag : (not (is_data l) && not (is_control l)) ≡ false = subst (λ z. (not (is_data z) && not (is_control z)) ≡ false) same (tags_each me to (x ∷ y ∷ more) tags).0 in
    absurd (let data_letter : is_data l ≡ true = one_kind l tag plain in cc)
