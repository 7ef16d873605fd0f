-- The letters of controls: each is read again, no two are the same, and a letter is one where its tag, its ends and its body say so.
use Rattle.std.proofs.Common.{◌≡◌, ◌↔◌, ℕ, true, false, eqb, length, Some, inl, inr, refl, sym, ap, ◌∙◌, eq-eqb}
use Rattle.std.proofs.lemmas.Bool.{and_parts, eqb-true}
use Rattle.std.proofs.lemmas.Option.{same_Some}
use Rattle.msg_codec.specs.Control.{spelled_counts, letter_of_control, control_of_letter, is_count, is_total, IsCountFrom, IsTotalTo, ControlFits}
use Rattle.msg_codec.specs.Spelling.{spelled_letter}
use Rattle.msg_codec.specs.declared.control.Control.{Control}
use Rattle.msg_codec.specs.declared.control.Control.TheVariants.{Count, Total}
use Rattle.msg_codec.specs.declared.letter.Letter.{Letter}
use Rattle.msg_codec.proofs.Controls.Body.{round_again, sent_again, run_again}
use Rattle.msg_codec.proofs.Controls.Found.{read_as, count_in, total_in}

same_count : (a b c d e f g h : ℕ) → a ≡ b → c ≡ d → e ≡ f → g ≡ h → Count a c e g ≡ Count b d f h
same_count a b c d e f g h p q r s = cc

same_total : (a b c d e f g h : ℕ) → a ≡ b → c ≡ d → e ≡ f → g ≡ h → Total a c e g ≡ Total b d f h
same_total a b c d e f g h p q r s = cc

pub again : (c : Control) → ControlFits c → control_of_letter (letter_of_control c) ≡ Some c
unfolding spelled_counts
again (Count rank q s r) fits =
    ap (λ (c : Control). Some c) (same_count rank rank _ _ _ _ _ _ refl (round_again 0 rank 240 q s r fits.1.round_fits) (sent_again 0 rank 240 q s r fits.1.sent_fits) (run_again 0 rank 240 q s r fits.1.run_fits))
again (Total to q s r) fits =
    ap (λ (c : Control). Some c) (same_total to to _ _ _ _ _ _ refl (round_again to 0 241 q s r fits.1.round_fits) (sent_again to 0 241 q s r fits.1.sent_fits) (run_again to 0 241 q s r fits.1.run_fits))

pub apart : (c d : Control) → ControlFits c → ControlFits d → letter_of_control c ≡ letter_of_control d → c ≡ d
apart c d p q e =
    same_Some c d (sym (again c p) ∙ ap control_of_letter e ∙ again d q)

pub bytes_of_each : (c : Control) → length (spelled_letter (letter_of_control c)) ≡ 37
unfolding spelled_counts
bytes_of_each (Count rank q s r) = refl
bytes_of_each (Total to q s r) = refl

count_says : (l : Letter) (rank q s r : ℕ) → l.to ≡ 0 → is_count l ≡ true → count_in l ≡ Count rank q s r → IsCountFrom rank q s r l
count_says l rank q s r to is e = record { count = is; from = cc; to = to; round = cc; sent = cc; run = cc }

total_says : (l : Letter) (rank q s r : ℕ) → l.from ≡ 0 → is_total l ≡ true → total_in l ≡ Total rank q s r → IsTotalTo rank q s r l
total_says l rank q s r from is e = record { total = is; from = from; to = cc; round = cc; sent = cc; run = cc }

pub count_is : (l : Letter) (rank q s r : ℕ) → control_of_letter l ≡ Some (Count rank q s r) ↔ IsCountFrom rank q s r l
count_is l rank q s r = (
  (λ e. elim (read_as l (Count rank q s r) e) [
    | inl (is, same) ↦ count_says l rank q s r is.to is.count same
    | inr (is, same) ↦ absurd cc
  ]),
  (λ is.
      let to : eqb l.to 0 ≡ true = eq-eqb _ _ is.to in
      rw (is.count, to) (ap (λ (c : Control). Some c) (same_count _ _ _ _ _ _ _ _ is.from is.round is.sent is.run))),
)

not_count : (l : Letter) → is_total l ≡ true → is_count l ≡ false
not_count l is =
    let tag : l.tag ≡ 241 = eqb-true _ _ (and_parts (eqb l.tag 241) (eqb (length l.body) 24) is).0 in
    rw tag refl

pub total_is : (l : Letter) (rank q s r : ℕ) → control_of_letter l ≡ Some (Total rank q s r) ↔ IsTotalTo rank q s r l
total_is l rank q s r = (
  (λ e. elim (read_as l (Total rank q s r) e) [
    | inl (is, same) ↦ absurd cc
    | inr (is, same) ↦ total_says l rank q s r is.from is.total same
  ]),
  (λ is.
      let from : eqb l.from 0 ≡ true = eq-eqb _ _ is.from in
      rw (not_count l is.total, is.total, from) (ap (λ (c : Control). Some c) (same_total _ _ _ _ _ _ _ _ is.to is.round is.sent is.run))),
)
