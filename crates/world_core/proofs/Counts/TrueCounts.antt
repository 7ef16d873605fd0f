-- Each Count that an honest log put carries the numbers of the log before it, and a log that put Count q + 1 took Total q.
use Rattle.std.proofs.Common.{◌≡◌, ℕ, suc, pred, ◌<◌, ◌&&◌, Bool, true, false, nat_eq, nat_lt, eqb-true, lt-ltb, is_some, Option, Some, None, List, [], ◌∷◌, ◌++◌, refl, sym, ap, ◌∙◌, subst, inl, inr, arith}
use Rattle.std.specs.Bool.{IsTrue}
use Rattle.std.specs.List.{AllByRecursion}
use Rattle.std.specs.Option.{option_or}
use Rattle.std.proofs.lemmas.Bool.{cases_lt, not-false}
use Rattle.std.proofs.lemmas.Grind.{flat_map-append}
use Rattle.std.proofs.lemmas.List.Folds.{find-append}
use Rattle.list_facts.proofs.Elements.{all_append, all_weaker}
use Rattle.list_facts.proofs.Tests.{and_first, and_second, and_false_second, none_any, or_false_first, or_false_second}
use Rattle.msg_codec.specs.Control.{is_count, round_of, sent_of, run_of}
use Rattle.msg_codec.specs.declared.letter.Letter.{Letter}
use Rattle.world_core.specs.declared.entry.Entry.{Entry}
use Rattle.world_core.specs.declared.entry.Entry.TheVariants.{Put, Took}
use Rattle.world_core.specs.ControlRules.{count_early, count_wrong}
use Rattle.world_core.specs.Counts.{before_count, counts, is_total_to, IsTrueCount, puts_count, total_taken}
use Rattle.world_core.specs.Local.{Local}
use Rattle.world_core.specs.Log.{letters_put}
use Rattle.world_core.specs.Pairs.{own_count, run_count}
use Rattle.world_core.proofs.Counts.AfterPut.{count_early-first, count_wrong-first, counts-none, counts-one, total_taken-put}
use Rattle.world_core.proofs.Counts.BeforeCount.{before_stands, before_this, counts-append}
use Rattle.world_core.proofs.Deeds.Unbroken.{Unbroken}
use Rattle.world_core.proofs.Deeds.Unmixed.{no_control, no_count}
use Rattle.world_core.proofs.Log.Appended.{batches_taken-took, letters_put-put, letters_put-took}

pub record Numbered (me : Local) : Type 0 where
  pub each : AllByRecursion (IsTrueCount me.here me.log) (letters_put me.log)
  pub told : (q : ℕ) → suc q < counts me.log → IsTrue (is_some (total_taken me.here q me.log))

abbrev after : Local → Entry → Local
after me entry = record me { log = me.log ++ entry ∷ [] }

-- ---- a log that goes on

still_true : (here : ℕ) (log more : List Entry) (l : Letter) → IsTrueCount here log l → IsTrueCount here (log ++ more) l
still_true here log more l true_count is =
    let says = true_count is in
    let same : before_count (round_of l) (log ++ more) ≡ before_count (round_of l) log = before_stands (round_of l) log more says.put in
    record {
      put = omega (arith, says.put, counts-append log more);
      sent = says.sent ∙ ap (own_count here) (sym same);
      run = says.run ∙ ap (run_count here) (sym same);
    }

some_or : (a b : Option Letter) → IsTrue (is_some a) → IsTrue (is_some (option_or a b))
some_or (Some x) b h = h
some_or None b h = absurd cc

-- what was taken stays so
pub still_told : (here q : ℕ) (log : List Entry) (entry : Entry) → IsTrue (is_some (total_taken here q log)) →
    IsTrue (is_some (total_taken here q (log ++ entry ∷ [])))
unfolding total_taken
still_told here q log (Put to batch) h = rw (total_taken-put here q log to batch) h
still_told here q log (Took from batch) h =
    rw (batches_taken-took log from 0 batch, flat_map-append, find-append (λ l. is_total_to here l && nat_eq (round_of l) q)) (some_or _ _ h)

pub numbered_nil : (me : Local) → me.log ≡ [] → Numbered me
numbered_nil me none = record { each = rw none tt; told = λ q h. absurd (omega (arith, h, ap counts none)) }

-- an entry without a Count
more : (me : Local) (entry : Entry) → Numbered me → puts_count entry ≡ false →
    AllByRecursion (IsTrueCount me.here (me.log ++ entry ∷ [])) (letters_put (me.log ++ entry ∷ [])) → Numbered (after me entry)
more me entry numbered none each = record {
  each = each;
  told = λ q h. still_told me.here q me.log entry (numbered.told q (omega (arith, h, counts-none me.log entry none)));
}

still : (me : Local) (entry : Entry) → Numbered me → AllByRecursion (IsTrueCount me.here (me.log ++ entry ∷ [])) (letters_put me.log)
still me entry numbered = all_weaker _ _ (letters_put me.log) (λ l. still_true me.here me.log (entry ∷ []) l) numbered.each

pub numbered_took : (me : Local) (from : ℕ) (letters : List Letter) → Numbered me → Numbered (after me (Took from letters))
numbered_took me from letters numbered =
    more me (Took from letters) numbered refl (rw (letters_put-took me.log from letters) (still me (Took from letters) numbered))

module _ (me : Local) (to : ℕ) (numbered : Numbered me) where
  without : (letters : List Letter) → AllByRecursion (λ l. is_count l ≡ false) letters → Numbered (after me (Put to letters))
  without letters none =
      more me (Put to letters) numbered (none_any is_count letters none)
      (rw (letters_put-put me.log to letters) (all_append _ (letters_put me.log) letters (still me (Put to letters) numbered)
      (all_weaker (λ l. is_count l ≡ false) _ letters (λ l fails is. absurd cc) none)))

  -- what the rules say of a Count
  record IsNext (l : Letter) : Type 0 where
    number : round_of l ≡ counts me.log
    told : (q : ℕ) → counts me.log ≡ suc q → IsTrue (is_some (total_taken me.here q me.log))
    sent : sent_of l ≡ own_count me.here me.log
    run : run_of l ≡ run_count me.here me.log

  next : (l : Letter) → is_count l ≡ true → count_early me to l ≡ false → count_wrong me to l ≡ false → IsNext l
  next l is early wrong =
      let in_turn = and_false_second _ _ is early in
      let both = not-false _ (and_false_second _ _ is wrong) in
      let number : round_of l ≡ counts me.log = eqb-true _ _ (not-false _ (or_false_first _ _ in_turn)) in
      record {
        number = number;
        told = λ q e.
            let above : nat_lt 0 (round_of l) ≡ true = lt-ltb _ _ (omega (arith, number, e)) in
            let there : is_some (total_taken me.here (pred (round_of l)) me.log) ≡ true = not-false _ (and_false_second _ _ above (or_false_second _ _ in_turn)) in
            let P : ℕ → Type 0 = λ k. is_some (total_taken me.here (pred k) me.log) ≡ true in
            subst P (number ∙ e) there;
        sent = eqb-true _ _ (and_first _ _ both);
        run = eqb-true _ _ (and_second _ _ both);
      }

  with_one : (l : Letter) → is_count l ≡ true → IsNext l → Numbered (after me (Put to (l ∷ [])))
  with_one l is one =
      let entry : Entry = Put to (l ∷ []) in
      let puts : puts_count entry ≡ true = rw is refl in
      let grown = counts-one me.log entry puts in
      let before : before_count (round_of l) (me.log ++ entry ∷ []) ≡ me.log = before_this (round_of l) me.log entry (sym one.number) puts in
      record {
        each = rw (letters_put-put me.log to (l ∷ [])) (all_append _ (letters_put me.log) (l ∷ []) (still me entry numbered) (
          (λ _. record {
            put = omega (arith, one.number, grown);
            sent = one.sent ∙ ap (own_count me.here) (sym before);
            run = one.run ∙ ap (run_count me.here) (sym before);
          }),
          tt,
        ));
        told = λ q h. still_told me.here q me.log entry (elim (cases_lt (suc q) (counts me.log)) [
          | inl old ↦ numbered.told q old
          | inr past ↦ one.told q (omega (arith, h, past, grown))
        ]);
      }

  pub numbered_put : (letters : List Letter) → Unbroken me to letters → Numbered (after me (Put to letters))
  numbered_put [] ok = without [] tt
  numbered_put (l ∷ []) ok = by_kind (is_count l) refl
    where
      by_kind : (b : Bool) → is_count l ≡ b → Numbered (after me (Put to (l ∷ [])))
      by_kind true is =
          with_one l is (next l is
          (sym (count_early-first me to l) ∙ or_false_first _ _ ok.next_count)
          (sym (count_wrong-first me to l) ∙ or_false_first _ _ ok.count))
      by_kind false is = without (l ∷ []) (is, tt)
  numbered_put (l ∷ m ∷ more) ok = without (l ∷ m ∷ more) (no_count (l ∷ m ∷ more) (no_control me to l m more ok.unmixed))
