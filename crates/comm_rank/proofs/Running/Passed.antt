-- Letters that passed, one after another.
use Rattle.std.proofs.Common.{◌≡◌, ◌≢◌, ℕ, ◌+◌, true, false, not, ◌&&◌, ◌==◌, nat_eq, eq-eqb, eqb-true, ne_eqb, List, [], ◌∷◌, ◌++◌, Some, length, map, drop, slice_get, lt-ltb, refl, sym, ap, ◌∙◌, subst, arith, append-nil, length-append}
use Rattle.std.specs.Bool.{IsTrue}
use Rattle.std.specs.List.{AllByRecursion}
use Rattle.std.proofs.lemmas.Bool.{false_from_ne_true}
use Rattle.std.proofs.lemmas.List.{length-map}
use Rattle.std.proofs.lemmas.List.Elements.{filter-append}
use Rattle.msg_codec.specs.declared.letter.Letter.{Letter}
use Rattle.comm_rank.specs.declared.handler.Outbound.{Outbound}
use Rattle.comm_rank.specs.Fold.{Applies, letter_by, given_by, fold_from, handed_from}
use Rattle.world_core.specs.Pairs.{for_rank, is_data}
use Rattle.comm_rank.specs.Held.{AreData, Gains}
use Rattle.comm_rank.specs.Rank.{Rank, folded, handed, held_letters}
use Rattle.ygm_route.specs.Layout.{Shape}
use Rattle.list_facts.proofs.Filters.{filter_none}
use Rattle.list_facts.proofs.Places.{item_first}
use Rattle.list_facts.proofs.Tests.{and_second}
use Rattle.comm_rank.proofs.Fold.Appended.{fold-append, handed-append}
use Rattle.comm_rank.proofs.Running.GainsBoth.{both_more, both_none, both_other, both_own}
use Rattle.comm_rank.proofs.Told.Heard.{heard_none, heard_then}
use Rattle.comm_rank.specs.Running.{GainsBoth, HasPassed, IsOf, PassedFirst, elsewhere}
use Rattle.comm_rank.specs.Sends.{IsData}
use Rattle.comm_rank.specs.Told.{with_letters}

pub given_of : (ranks here : ℕ) (outs : List Outbound) → AllByRecursion (IsData ranks) outs → AllByRecursion (IsOf here) (map (letter_by here) outs)
given_of ranks here [] h = tt
given_of ranks here (o ∷ outs) h = (record { sender = refl; tag = lt-ltb o.tag 240 h.0.tag }, given_of ranks here outs h.1)

-- ---- what passed, by what of it ran

pub has_passed : {C : Type 0} (apply : Applies C) (old new : Rank C) (letters run others : List Letter) → for_rank old.here letters ≡ run → elsewhere old.here letters ≡ others →
    new.contents ≡ folded apply old run → GainsBoth old.here (held_letters old) (held_letters new) (handed apply old run) others →
    new.run_count ≡ old.run_count + length run → new.sent_count ≡ old.sent_count + length (handed apply old run) →
    new.heard ≡ with_letters old.heard run → HasPassed apply old new letters
has_passed apply old new letters run others is away contents held run_count sent_count told = record {
  contents = contents ∙ ap (folded apply old) (sym is);
  held = subst (λ xs. GainsBoth old.here (held_letters old) (held_letters new) (handed apply old xs) (elsewhere old.here letters)) (sym is)
      (subst (GainsBoth old.here (held_letters old) (held_letters new) (handed apply old run)) (sym away) held);
  run_count = run_count ∙ ap (λ xs. old.run_count + length xs) (sym is);
  sent_count = sent_count ∙ ap (λ xs. old.sent_count + length (handed apply old xs)) (sym is);
  told = told ∙ ap (with_letters old.heard) (sym is);
}

-- a data letter for the rank, alone
pub one_runs : (here : ℕ) (l : Letter) → IsTrue (is_data l) → l.to ≡ here → for_rank here (l ∷ []) ≡ l ∷ []
one_runs here l tag mine = let to : nat_eq l.to here ≡ true = eq-eqb l.to here mine in let is : is_data l ≡ true = tag in rw (is, to) refl

none_leaves : (here : ℕ) (l : Letter) → l.to ≡ here → elsewhere here (l ∷ []) ≡ []
none_leaves here l mine = let to : nat_eq l.to here ≡ true = eq-eqb l.to here mine in rw to refl

-- a letter for another rank, alone
none_runs : (here : ℕ) (l : Letter) → l.to ≢ here → for_rank here (l ∷ []) ≡ []
none_runs here l other = filter_none (λ x. is_data x && nat_eq x.to here) (l ∷ []) (false_from_ne_true _ (λ yes. other (eqb-true l.to here (and_second (is_data l) (nat_eq l.to here) yes))), tt)

one_leaves : (here : ℕ) (l : Letter) → l.to ≢ here → elsewhere here (l ∷ []) ≡ l ∷ []
one_leaves here l other = let to : nat_eq l.to here ≡ false = ne_eqb l.to here other in rw to refl

-- ---- one letter

module _ {C : Type 0} (apply : Applies C) (was old new : Rank C) (e : was ≡ old) where
  -- it is held to be forwarded
  pub held_first : (l : Letter) → slice_get was.waiting 0 ≡ Some l → l.to ≢ was.here → l.from ≢ was.here → new.waiting ≡ drop 1 was.waiting → new.contents ≡ was.contents →
      (AreData (held_letters was) → AreData (held_letters new)) → Gains (held_letters was) (held_letters new) (l ∷ []) →
      new.run_count ≡ was.run_count → new.sent_count ≡ was.sent_count → new.heard ≡ was.heard → PassedFirst apply old new
  held_first l first to from rest contents kept held run_count sent_count heard = subst (λ (me : Rank C). PassedFirst apply me new) e (record {
    letter = l;
    first = item_first was.waiting l first ∙ ap (λ w. l ∷ w) (sym rest);
    passed = has_passed apply was new (l ∷ []) [] (l ∷ []) (none_runs was.here l to) (one_leaves was.here l to) contents
        (both_other was.here (held_letters was) (held_letters new) l from kept held) (omega (arith, run_count)) (omega (arith, sent_count)) (heard ∙ heard_none was.heard);
  })

  module _ (outs : List Outbound) (l : Letter) (is : outs ≡ (apply was.contents was.here was.layout.ranks l).1) (made : new.contents ≡ (apply was.contents was.here was.layout.ranks l).0)
      (lawful : AllByRecursion (IsData was.layout.ranks) outs) (first : slice_get was.waiting 0 ≡ Some l) (kept : AreData (held_letters was) → AreData (held_letters new)) where
    -- it ran, and all that the handler gave is held
    pub ran_one : IsTrue (is_data l) → l.to ≡ was.here → Gains (held_letters was) (held_letters new) (map (letter_by was.here) outs) → new.run_count ≡ was.run_count + 1 → new.sent_count ≡ was.sent_count + length outs →
        new.heard ≡ with_letters was.heard (l ∷ []) → HasPassed apply was new (l ∷ [])
    ran_one tag mine held run_count sent_count told =
        let all : map (letter_by was.here) outs ≡ handed apply was (l ∷ []) = ap (map (letter_by was.here)) is ∙ sym (append-nil (given_by apply was.here was.layout.ranks was.contents l)) in
        let both = both_own was.here (held_letters was) (held_letters new) _ (given_of was.layout.ranks was.here outs lawful) kept held in
        has_passed apply was new (l ∷ []) (l ∷ []) [] (one_runs was.here l tag mine) (none_leaves was.here l mine) made
        (subst (λ xs. GainsBoth was.here (held_letters was) (held_letters new) xs []) all both) run_count (omega (arith, sent_count, ap length all, length-map outs (letter_by was.here))) told

    pub ran_first : IsTrue (is_data l) → l.to ≡ was.here → new.waiting ≡ drop 1 was.waiting → Gains (held_letters was) (held_letters new) (map (letter_by was.here) outs) →
        new.run_count ≡ was.run_count + 1 → new.sent_count ≡ was.sent_count + length outs → new.heard ≡ with_letters was.heard (l ∷ []) → PassedFirst apply old new
    ran_first tag mine rest held run_count sent_count told = subst (λ (me : Rank C). PassedFirst apply me new) e (record {
      letter = l;
      first = item_first was.waiting l first ∙ ap (λ w. l ∷ w) (sym rest);
      passed = ran_one tag mine held run_count sent_count told;
    })

-- what a handler gave, where nothing had been given before, and its new contents
pub outs_are : {C : Type 0} (apply : Applies C) (here n m : ℕ) (c : C) (l : Letter) (old new : List Outbound) → n ≡ m → old ≡ [] → new ≡ old ++ (apply c here n l).1 → new ≡ (apply c here m l).1
outs_are apply here n m c l old new same none is =
    is ∙ ap (λ (w : List Outbound). w ++ (apply c here n l).1) none ∙ ap (λ k. (apply c here k l).1) same

pub made_are : {C : Type 0} (apply : Applies C) (here n m : ℕ) (c new : C) (l : Letter) → n ≡ m → new ≡ (apply c here n l).0 → new ≡ (apply c here m l).0
made_are apply here n m c new l same is = is ∙ ap (λ k. (apply c here k l).0) same

-- ---- letter after letter

pub passed_none : {C : Type 0} (apply : Applies C) (me : Rank C) → HasPassed apply me me []
passed_none apply me = record { contents = refl; held = both_none me.here (held_letters me); run_count = omega arith; sent_count = omega arith; told = heard_none me.heard }

module _ {C : Type 0} (apply : Applies C) (old mid new : Rank C) (same_here : mid.here ≡ old.here) (same_layout : mid.layout ≡ old.layout) where
  -- what runs later at a rank runs on the contents after the first letters
  later_fold : (c : C) (xs : List Letter) → mid.contents ≡ c → folded apply mid xs ≡ fold_from apply old.here old.layout.ranks c xs
  later_fold c xs e =
      ap (λ h. fold_from apply h mid.layout.ranks mid.contents xs) same_here
      ∙ ap (λ (s : Shape). fold_from apply old.here s.ranks mid.contents xs) same_layout
      ∙ ap (λ x. fold_from apply old.here old.layout.ranks x xs) e

  later_handed : (c : C) (xs : List Letter) → mid.contents ≡ c → handed apply mid xs ≡ handed_from apply old.here old.layout.ranks c xs
  later_handed c xs e =
      ap (λ h. handed_from apply h mid.layout.ranks mid.contents xs) same_here
      ∙ ap (λ (s : Shape). handed_from apply old.here s.ranks mid.contents xs) same_layout
      ∙ ap (λ x. handed_from apply old.here old.layout.ranks x xs) e

  module _ (run : List Letter) (before : mid.contents ≡ folded apply old run) where
    pub folded_on : (more : List Letter) → folded apply mid more ≡ folded apply old (run ++ more)
    folded_on more = later_fold (folded apply old run) more before ∙ sym (fold-append apply old.here old.layout.ranks old.contents run more)

    pub handed_on : (more : List Letter) → handed apply old (run ++ more) ≡ handed apply old run ++ handed apply mid more
    handed_on more =
        handed-append apply old.here old.layout.ranks old.contents run more
        ∙ ap (λ xs. handed apply old run ++ xs) (sym (later_handed (folded apply old run) more before))

  pub passed_more : (letters more : List Letter) → HasPassed apply old mid letters → HasPassed apply mid new more → HasPassed apply old new (letters ++ more)
  passed_more letters more first second =
      let run = for_rank old.here letters in
      let later = for_rank mid.here more in
      let away = elsewhere old.here letters ++ elsewhere mid.here more in
      let on : handed apply old (run ++ later) ≡ handed apply old run ++ handed apply mid later = handed_on run first.contents later in
      let held : GainsBoth old.here (held_letters mid) (held_letters new) (handed apply mid later) (elsewhere mid.here more) =
      subst (λ h. GainsBoth h (held_letters mid) (held_letters new) (handed apply mid later) (elsewhere mid.here more)) same_here second.held in
      has_passed apply old new (letters ++ more) (run ++ later) away
      (filter-append _ letters more ∙ ap (λ h. run ++ for_rank h more) (sym same_here))
      (filter-append (λ l. not (l.to == old.here)) letters more ∙ ap (λ h. elsewhere old.here letters ++ elsewhere h more) (sym same_here))
      (second.contents ∙ folded_on run first.contents later)
      (subst (λ xs. GainsBoth old.here (held_letters old) (held_letters new) xs away) (sym on) (both_more old.here (held_letters old) (held_letters mid) (held_letters new) _ _ _ _ first.held held))
      (omega (arith, first.run_count, second.run_count, length-append run later))
      (omega (arith, first.sent_count, second.sent_count, ap length on, length-append (handed apply old run) (handed apply mid later)))
      (heard_then old.heard mid.heard new.heard run later first.told second.told)
