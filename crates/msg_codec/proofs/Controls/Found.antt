-- The control that a letter is read as.
use Rattle.std.proofs.Common.{◌≡◌, ◌≢◌, ◌<◌, ◌^◌, Bool, true, false, ◌&&◌, cond, eqb, length, Option, Some, None, IfSome, ◌⊎◌, inl, inr, refl, sym, ap, subst, ◌∙◌}
use Rattle.std.specs.Prelude.{IfNone}
use Rattle.std.proofs.lemmas.Bool.{and_parts, eqb-true}
use Rattle.std.proofs.lemmas.Option.{none-some}
use Rattle.msg_codec.specs.Bytes.{AreBytes}
use Rattle.msg_codec.specs.Control.{spelled_counts, round_of, sent_of, run_of, letter_of_control, control_of_letter, is_count, is_total, ControlFits}
use Rattle.msg_codec.specs.declared.control.Control.{Control}
use Rattle.msg_codec.specs.declared.control.Control.TheVariants.{Count, Total}
use Rattle.msg_codec.specs.declared.letter.Letter.{Letter}
use Rattle.msg_codec.proofs.Controls.Body.{body_is, counts_fit}
use Rattle.msg_codec.proofs.Placed.First.{same_letter}

abbrev pub count_in : Letter → Control
count_in l = Count l.from (round_of l) (sent_of l) (run_of l)

abbrev pub total_in : Letter → Control
total_in l = Total l.to (round_of l) (sent_of l) (run_of l)

-- a Count to rank 0, and otherwise a Total from rank 0
pub record IsCount (l : Letter) : Type 0 where
  pub count : is_count l ≡ true
  pub tag : l.tag ≡ 240
  pub size : length l.body ≡ 24
  pub to : l.to ≡ 0

pub record IsTotal (l : Letter) : Type 0 where
  pub total : is_total l ≡ true
  pub tag : l.tag ≡ 241
  pub size : length l.body ≡ 24
  pub from : l.from ≡ 0

as_count : (l : Letter) → (is_count l && eqb l.to 0) ≡ true → IsCount l
as_count l e =
    let both = and_parts (is_count l) (eqb l.to 0) e in
    let parts = and_parts (eqb l.tag 240) (eqb (length l.body) 24) both.0 in
    record { count = both.0; tag = eqb-true _ _ parts.0; size = eqb-true _ _ parts.1; to = eqb-true _ _ both.1 }

as_total : (l : Letter) → (is_total l && eqb l.from 0) ≡ true → IsTotal l
as_total l e =
    let both = and_parts (is_total l) (eqb l.from 0) e in
    let parts = and_parts (eqb l.tag 241) (eqb (length l.body) 24) both.0 in
    record { total = both.0; tag = eqb-true _ _ parts.0; size = eqb-true _ _ parts.1; from = eqb-true _ _ both.1 }

chosen : (a b : Bool) (x y z : Control) → cond a (Some x) (cond b (Some y) None) ≡ Some z → ((a ≡ true) × (x ≡ z)) ⊎ ((b ≡ true) × (y ≡ z))
chosen true b x y z e = let same : x ≡ z = cc in inl (refl, same)
chosen false true x y z e = let same : y ≡ z = cc in inr (refl, same)
chosen false false x y z e = absurd cc

pub read_as : (l : Letter) (c : Control) → control_of_letter l ≡ Some c → (IsCount l × (count_in l ≡ c)) ⊎ (IsTotal l × (total_in l ≡ c))
read_as l c e =
    elim (chosen (is_count l && eqb l.to 0) (is_total l && eqb l.from 0) (count_in l) (total_in l) c e) [
      | inl (a, same) ↦ inl (as_count l a, same)
      | inr (b, same) ↦ inr (as_total l b, same)
    ]

-- what is found

pub found_is : (l : Letter) (answer : Option Control) → AreBytes l.body → answer ≡ control_of_letter l → IfSome answer (λ c. l ≡ letter_of_control c)
found_is l None fit e = tt
found_is l (Some c) fit e =
    elim (read_as l c (sym e)) [
      | inl (is, same) ↦ subst (λ (x : Control). l ≡ letter_of_control x) same (same_letter _ _ _ _ _ _ _ _ is.to refl is.tag (body_is l fit is.size))
      | inr (is, same) ↦ subst (λ (x : Control). l ≡ letter_of_control x) same (same_letter _ _ _ _ _ _ _ _ refl is.from is.tag (body_is l fit is.size))
    ]

pub fits_is : (l : Letter) (answer : Option Control) → l.to < 2 ^ 32 → l.from < 2 ^ 32 → AreBytes l.body → answer ≡ control_of_letter l → IfSome answer ControlFits
fits_is l None to from fit e = tt
fits_is l (Some c) to from fit e =
    elim (read_as l c (sym e)) [
      | inl (is, same) ↦ subst ControlFits same (from, counts_fit l fit is.size)
      | inr (is, same) ↦ subst ControlFits same (to, counts_fit l fit is.size)
    ]

-- a letter in which none is found is that of none

some_read : (c : Control) → (d : Control) × (control_of_letter (letter_of_control c) ≡ Some d)
unfolding spelled_counts
some_read (Count rank q s r) = (count_in (letter_of_control (Count rank q s r)), refl)
some_read (Total to q s r) = (total_in (letter_of_control (Total to q s r)), refl)

pub none_is : (l : Letter) (answer : Option Control) → answer ≡ control_of_letter l → IfNone answer ((c : Control) → l ≢ letter_of_control c)
none_is l (Some c) e = tt
none_is l None e = λ c same. let read = some_read c in none-some read.0 (e ∙ ap control_of_letter same ∙ read.1)
