-- The first rule that a put of one control letter breaks.
use Rattle.std.proofs.Common.{◌≡◌, ℕ, Bool, true, false, not, ◌&&◌, nat_eq, eq-eqb, Some, None, [], ◌∷◌, refl, sym, ◌∙◌, if◌then◌else◌}
use Rattle.std.proofs.lemmas.Bool.{false_from_ne_true}
use Rattle.msg_codec.specs.Control.{IsCountFrom, IsTotalTo, control_of_letter, is_control, is_count, is_total}
use Rattle.msg_codec.specs.declared.letter.Letter.{Letter}
use Rattle.world_core.specs.declared.why.Why.TheVariants.{CountEarly, CountUnforwarded, CountWrong, TotalEarly, TotalWrong, WrongControl}
use Rattle.world_core.specs.ControlRules.{count_early, count_unforwarded, count_wrong, has_to_forward, total_early, total_wrong, wrong_control}
use Rattle.world_core.specs.Local.{Local, having_put}
use Rattle.world_core.specs.Rules.{first_broken_of, some_letter}
use Rattle.world_core.specs.Rules.Deed.{Puts}
use Rattle.world_core.specs.Trial.{control_rules}
use Rattle.world_core.proofs.Counts.AfterPut.{count_early-first, count_unforwarded-first, count_wrong-first, total_early-first, total_wrong-first}
use Rattle.world_core.proofs.Deeds.Unmixed.{not_both}

-- a rule on the only letter of a batch
single : (breaks : Local → ℕ → Letter → Bool) (me : Local) (to : ℕ) (l : Letter) (a : Bool) → breaks (having_put me to []) to l ≡ a → some_letter breaks me (Puts to (l ∷ [])) ≡ a
single breaks me to l true h = rw h refl
single breaks me to l false h = rw h refl

-- a Total isn't a Count
total_not_count : (l : Letter) → is_total l ≡ true → is_count l ≡ false
total_not_count l total = false_from_ne_true (is_count l) (λ count. absurd (let other : is_total l ≡ false = not_both l count in cc))

-- ---- a control letter whose sender, destination or link is wrong

pub wrong_table : (me : Local) (to : ℕ) (l : Letter) → wrong_control me to l ≡ true → Some WrongControl ≡ first_broken_of control_rules me (Puts to (l ∷ []))
wrong_table me to l wrong = let first = single wrong_control me to l true wrong in sym (rw first refl)

inner_fails : (a b c : Bool) → b ≡ false → not (a && b && c) ≡ true
inner_fails true b c h = rw h refl
inner_fails false b c h = refl

wrong_count : (me : Local) (to : ℕ) (l : Letter) → is_count l ≡ true → not (nat_eq l.from me.here && nat_eq l.to 0 && nat_eq to 0) ≡ true → wrong_control me to l ≡ true
wrong_count me to l count wrong = rw (count, wrong) refl

wrong_total : (me : Local) (to : ℕ) (l : Letter) → is_total l ≡ true → not (nat_eq me.here 0 && nat_eq l.from 0 && nat_eq l.to to) ≡ true → wrong_control me to l ≡ true
wrong_total me to l total wrong = rw (total_not_count l total, total, wrong) refl

-- a Count that isn't for rank 0, or a Total that isn't from there
pub uncontrolled : (me : Local) (to : ℕ) (l : Letter) → control_of_letter l ≡ None → is_control l ≡ true → wrong_control me to l ≡ true
uncontrolled me to l none control = by_kind (is_count l) refl
  where
    of_count : (b : Bool) → is_count l ≡ true → nat_eq l.to 0 ≡ b → wrong_control me to l ≡ true
    of_count true count first = absurd (let some = rw (count, first) at none in cc)
    of_count false count other = wrong_count me to l count (inner_fails (nat_eq l.from me.here) (nat_eq l.to 0) (nat_eq to 0) other)

    of_total : (b : Bool) → is_count l ≡ false → is_total l ≡ true → nat_eq l.from 0 ≡ b → wrong_control me to l ≡ true
    of_total true plain total first = absurd (let some = rw (plain, total, first) at none in cc)
    of_total false plain total other = wrong_total me to l total (inner_fails (nat_eq me.here 0) (nat_eq l.from 0) (nat_eq l.to to) other)

    by_kind : (b : Bool) → is_count l ≡ b → wrong_control me to l ≡ true
    by_kind true count = of_count (nat_eq l.to 0) count refl
    by_kind false plain = of_total (nat_eq l.from 0) plain (let total : is_total l ≡ true = rw plain at control in total) refl

-- ---- a Count from its rank to rank 0

module _ (me : Local) (q s r : ℕ) (l : Letter) (is : IsCountFrom me.here q s r l) where
  right_count : wrong_control me 0 l ≡ false
  right_count =
      let here : nat_eq l.from me.here ≡ true = eq-eqb _ _ is.from in
      let to : nat_eq l.to 0 ≡ true = eq-eqb _ _ is.to in
      rw (is.count, not_both l is.count, here, to) refl

  pub count_table : (a b c : Bool) → count_early me 0 l ≡ a → has_to_forward me ≡ b → count_wrong me 0 l ≡ c →
      (if a then Some CountEarly else if b then Some CountUnforwarded else if c then Some CountWrong else None) ≡ first_broken_of control_rules me (Puts 0 (l ∷ []))
  count_table a b c early forward wrong =
      let one = single wrong_control me 0 l false right_count in
      let two = single count_early me 0 l a (count_early-first me 0 l ∙ early) in
      let three = single count_unforwarded me 0 l b (count_unforwarded-first me 0 l ∙ rw is.count forward) in
      let four = single count_wrong me 0 l c (count_wrong-first me 0 l ∙ wrong) in
      let five = single total_early me 0 l false (rw (not_both l is.count) refl) in
      let six = single total_wrong me 0 l false (rw (not_both l is.count) refl) in
      sym (rw (one, two, three, four, five, six) refl)

-- ---- a Total from rank 0 to its rank

module _ (me : Local) (first : me.here ≡ 0) (to q s r : ℕ) (l : Letter) (is : IsTotalTo to q s r l) where
  right_total : wrong_control me to l ≡ false
  right_total =
      let here : nat_eq me.here 0 ≡ true = eq-eqb _ _ first in
      let from : nat_eq l.from 0 ≡ true = eq-eqb _ _ is.from in
      let there : nat_eq l.to to ≡ true = eq-eqb _ _ is.to in
      rw (total_not_count l is.total, is.total, here, from, there) refl

  pub total_table : (a b : Bool) → total_early me to l ≡ a → total_wrong me to l ≡ b →
      (if a then Some TotalEarly else if b then Some TotalWrong else None) ≡ first_broken_of control_rules me (Puts to (l ∷ []))
  total_table a b early wrong =
      let other = total_not_count l is.total in
      let one = single wrong_control me to l false right_total in
      let two = single count_early me to l false (rw other refl) in
      let three = single count_unforwarded me to l false (rw other refl) in
      let four = single count_wrong me to l false (rw other refl) in
      let five = single total_early me to l a (total_early-first me to l ∙ early) in
      let six = single total_wrong me to l b (total_wrong-first me to l ∙ wrong) in
      sym (rw (one, two, three, four, five, six) refl)
