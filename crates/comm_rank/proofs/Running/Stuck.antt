-- A letter that couldn't run or be held, and those that passed before it.
use Rattle.std.proofs.Common.{◌≡◌, ℕ, ◌+◌, ◌<◌, not, ◌==◌, List, [], ◌∷◌, ◌++◌, Some, length, map, take, drop, slice_get, refl, sym, ap, ◌∙◌, subst, inl, inr, arith, append-nil, append_assoc, length-append}
use Rattle.std.specs.Bool.{IsTrue}
use Rattle.std.specs.List.{AllByRecursion}
use Rattle.std.proofs.lemmas.List.{length-map, length-take-le}
use Rattle.std.proofs.lemmas.List.Elements.{filter-append}
use Rattle.msg_codec.specs.declared.letter.Letter.{Letter}
use Rattle.comm_rank.specs.declared.handler.Outbound.{Outbound}
use Rattle.comm_rank.specs.declared.fault.CommFault.{CommFault}
use Rattle.comm_rank.specs.declared.fault.CommFault.TheVariants.{NoMemory}
use Rattle.comm_rank.specs.Fault.{IfCountFull, IsFullAt, NeverStopped}
use Rattle.comm_rank.specs.Fold.{Applies, letter_by, given_by}
use Rattle.send_buffers.specs.Buffers.{queued}
use Rattle.world_core.specs.Pairs.{for_rank, is_data}
use Rattle.comm_rank.specs.Held.{AreData, Gains}
use Rattle.comm_rank.specs.Rank.{IsSameRank, Rank, folded, handed, held_letters}
use Rattle.comm_rank.specs.Turns.{HasBegun, IsFullAfter}
use Rattle.ygm_route.specs.Layout.{Shape}
use Rattle.list_facts.proofs.Elements.{all_take}
use Rattle.list_facts.proofs.Places.{item_first}
use Rattle.comm_rank.proofs.Turns.Faults.{cause_on, if_full}
use Rattle.comm_rank.proofs.Running.GainsBoth.{both_more, both_none, both_own}
use Rattle.comm_rank.specs.Running.{GainsBoth, HasPassed, IsOf, IsStuck, StuckIn, elsewhere}
use Rattle.comm_rank.specs.Sends.{IsData}
use Rattle.comm_rank.specs.Told.{HeardOrLacksLast, with_letters}
use Rattle.comm_rank.proofs.Running.Passed.{folded_on, given_of, handed_on, one_runs, ran_one}
use Rattle.comm_rank.proofs.Told.Heard.{heard_none, heard_then, lacks_only, lacks_then}

-- ---- the letter that waits first

module _ {C : Type 0} (apply : Applies C) (was old new : Rank C) (e : was ≡ old) where
  -- it was refused, and nothing changed
  stuck_refused : new.contents ≡ was.contents → new.held ≡ was.held → new.run_count ≡ was.run_count → new.sent_count ≡ was.sent_count → new.heard ≡ was.heard → IsStuck apply old new [] []
  stuck_refused contents held run_count sent_count heard = subst (λ (me : Rank C). IsStuck apply me new [] []) e (record {
    begun = inl (contents, refl);
    held = subst (λ h. GainsBoth was.here (held_letters was) (queued h) [] []) (sym held) (both_none was.here (held_letters was));
    run_count = omega (arith, run_count);
    sent_count = omega (arith, sent_count);
    told = inl (heard ∙ heard_none was.heard);
  })

  -- for lack of memory
  pub first_refused : new.contents ≡ was.contents → new.held ≡ was.held → new.run_count ≡ was.run_count → new.sent_count ≡ was.sent_count → new.waiting ≡ was.waiting → new.heard ≡ was.heard →
      (fault : CommFault) → fault ≡ NoMemory → StuckIn apply old new old.waiting fault
  first_refused contents held run_count sent_count waits heard fault is = subst (StuckIn apply old new old.waiting) (sym is) (record {
    letters = [];
    given = [];
    waits = sym (waits ∙ ap (λ (me : Rank C). me.waiting) e);
    stuck = stuck_refused contents held run_count sent_count heard;
    full_at_first = tt;
    cause = record { count_full = tt; gave = tt; never_stopped = tt };
  })

  module _ (outs : List Outbound) (l : Letter) (is : outs ≡ (apply was.contents was.here was.layout.ranks l).1) (made : new.contents ≡ (apply was.contents was.here was.layout.ranks l).0)
      (lawful : AllByRecursion (IsData was.layout.ranks) outs) (first : slice_get was.waiting 0 ≡ Some l) (kept : AreData (held_letters was) → AreData (held_letters new)) where
    given_is : map (letter_by was.here) outs ≡ given_by apply was.here was.layout.ranks was.contents l
    given_is = ap (map (letter_by was.here)) is

    -- of what the handler gave only the first letters are held
    pub stuck_sending : (k : ℕ) → new.waiting ≡ was.waiting → k < length outs →
        Gains (held_letters was) (held_letters new) (take k (map (letter_by was.here) outs)) → new.run_count ≡ was.run_count → new.sent_count ≡ was.sent_count + k → new.heard ≡ was.heard →
        (x : List Letter) × IsStuck apply old new [] x
    stuck_sending k waits few held run_count sent_count heard = (
      take k (map (letter_by was.here) outs),
      subst (λ (me : Rank C). IsStuck apply me new [] (take k (map (letter_by was.here) outs))) e (record {
        begun = inr (l, k, ap (λ w. slice_get w 0) waits ∙ first, made, omega (arith, few, ap length given_is, length-map outs (letter_by was.here)), ap (take k) given_is);
        held = both_own was.here (held_letters was) (held_letters new) _ (all_take (IsOf was.here) k _ (given_of was.layout.ranks was.here outs lawful)) kept held;
        run_count = omega (arith, run_count);
        sent_count = omega (arith, sent_count, length-take-le k (map (letter_by was.here) outs) (omega (arith, few, length-map outs (letter_by was.here))));
        told = inl (heard ∙ heard_none was.heard);
      }),
    )

-- with the letter that waits first, the handler gave more than the rank may send
pub full_after : {C : Type 0} (apply : Applies C) (was old new : Rank C) (e : was ≡ old) (outs : List Outbound) (l : Letter) → outs ≡ (apply was.contents was.here was.layout.ranks l).1 →
    slice_get was.waiting 0 ≡ Some l → new.waiting ≡ was.waiting → new.heard ≡ was.heard → was.most < was.sent_count + length outs → IsFullAfter apply old new []
full_after {C} apply was old new e outs l is first waits heard more =
    let given = given_by apply was.here was.layout.ranks was.contents l in
    let size : length given ≡ length outs = ap (λ xs. length (map (letter_by was.here) xs)) (sym is) ∙ length-map outs (letter_by was.here) in
    subst (λ (me : Rank C). IsFullAfter apply me new []) e (record {
      next = l;
      waits = ap (λ w. slice_get w 0) waits ∙ first;
      too_many = omega (arith, more, size, ap length (append-nil given));
      told = heard ∙ heard_none was.heard;
    })

-- not all that the handler gave could be sent
pub first_cut_short : {C : Type 0} (apply : Applies C) (was old new : Rank C) (e : was ≡ old) (outs : List Outbound) (l : Letter) → outs ≡ (apply was.contents was.here was.layout.ranks l).1 →
    new.contents ≡ (apply was.contents was.here was.layout.ranks l).0 → AllByRecursion (IsData was.layout.ranks) outs → slice_get was.waiting 0 ≡ Some l → (AreData (held_letters was) → AreData (held_letters new)) →
    (k : ℕ) → new.waiting ≡ was.waiting → k < length outs → Gains (held_letters was) (held_letters new) (take k (map (letter_by was.here) outs)) → new.run_count ≡ was.run_count → new.sent_count ≡ was.sent_count + k → new.heard ≡ was.heard →
    (fault : CommFault) → IsFullAt new.sent_count was.most fault → IfCountFull fault (λ _. was.most < was.sent_count + length outs) → NeverStopped fault → StuckIn apply old new old.waiting fault
first_cut_short {C} apply was old new e outs l is made lawful first kept k waits few held run_count sent_count heard fault count_full too_many never =
    let stuck = stuck_sending apply was old new e outs l is made lawful first kept k waits few held run_count sent_count heard in
    record {
      letters = [];
      given = stuck.0;
      waits = sym (waits ∙ ap (λ (me : Rank C). me.waiting) e);
      stuck = stuck.1;
      full_at_first = if_full fault (λ _ more. full_after apply was old new e outs l is first waits heard more) too_many;
      cause = record {
        count_full = subst (λ (me : Rank C). IsFullAt new.sent_count me.most fault) e count_full;
        gave = if_full fault (λ _ more. (was.contents, was.here, was.layout.ranks, l, omega (arith, few, ap length is))) too_many;
        never_stopped = never;
      };
    }

-- it ran, and then the tap had no memory for it
pub first_untold : {C : Type 0} (apply : Applies C) (was old new : Rank C) (e : was ≡ old) (outs : List Outbound) (l : Letter) → outs ≡ (apply was.contents was.here was.layout.ranks l).1 →
    new.contents ≡ (apply was.contents was.here was.layout.ranks l).0 → AllByRecursion (IsData was.layout.ranks) outs → slice_get was.waiting 0 ≡ Some l → (AreData (held_letters was) → AreData (held_letters new)) →
    IsTrue (is_data l) → l.to ≡ was.here → new.waiting ≡ drop 1 was.waiting → Gains (held_letters was) (held_letters new) (map (letter_by was.here) outs) → new.run_count ≡ was.run_count + 1 → new.sent_count ≡ was.sent_count + length outs →
    new.heard ≡ was.heard → (fault : CommFault) → fault ≡ NoMemory → StuckIn apply old new old.waiting fault
first_untold {C} apply was old new e outs l is made lawful first kept tag mine rest held run_count sent_count same fault no_memory =
    let run = for_rank was.here (l ∷ []) in
    let told : Rank C = record new { heard = with_letters was.heard (l ∷ []) } in
    let p = ran_one apply was was told refl outs l is made lawful first kept tag mine held run_count sent_count refl in
    let gave : handed apply was run ++ [] ≡ handed apply was run = append-nil (handed apply was run) in
    let lacks : HeardOrLacksLast was.heard new.heard run = subst (HeardOrLacksLast was.heard new.heard) (sym (one_runs was.here l tag mine)) (inr (lacks_only was.heard new.heard l same)) in
    subst (λ (me : Rank C). StuckIn apply me new me.waiting fault) e (subst (StuckIn apply was new was.waiting) (sym no_memory) (record {
      letters = l ∷ [];
      given = [];
      waits = item_first was.waiting l first ∙ ap (λ w. l ∷ w) (sym rest);
      stuck = record {
        begun = inl (p.contents, refl);
        held = subst (λ xs. GainsBoth was.here (held_letters was) (held_letters new) xs (elsewhere was.here (l ∷ []))) (sym gave) p.held;
        run_count = p.run_count;
        sent_count = omega (arith, p.sent_count);
        told = lacks;
      };
      full_at_first = tt;
      cause = record { count_full = tt; gave = tt; never_stopped = tt };
    }))

-- ---- after those that passed

module _ {C : Type 0} (apply : Applies C) (old mid new : Rank C) (same_here : mid.here ≡ old.here) (same_layout : mid.layout ≡ old.layout) where
  pub begun_same : (waiting given : List Letter) (a b after : C) → a ≡ b → HasBegun apply mid.here mid.layout.ranks a after waiting given → HasBegun apply old.here old.layout.ranks b after waiting given
  begun_same waiting given a b after e h =
      subst (λ x. HasBegun apply old.here old.layout.ranks x after waiting given) e
      (subst (λ (s : Shape). HasBegun apply old.here s.ranks a after waiting given) same_layout
      (subst (λ n. HasBegun apply n mid.layout.ranks a after waiting given) same_here h))

  -- of the letters after those that passed, one couldn't
  pub stuck_later : (letters more given : List Letter) → HasPassed apply old mid letters → IsStuck apply mid new more given → IsStuck apply old new (letters ++ more) given
  stuck_later letters more given first second =
      let run = for_rank old.here letters in
      let later = for_rank mid.here more in
      let on : handed apply old (run ++ later) ++ given ≡ handed apply old run ++ (handed apply mid later ++ given) =
      ap (λ xs. xs ++ given) (handed_on apply old mid new same_here same_layout run first.contents later) ∙ append_assoc (handed apply old run) (handed apply mid later) given in
      let held : GainsBoth old.here (held_letters mid) (held_letters new) (handed apply mid later ++ given) (elsewhere mid.here more) =
      subst (λ h. GainsBoth h (held_letters mid) (held_letters new) (handed apply mid later ++ given) (elsewhere mid.here more)) same_here second.held in
      let run_is : run ++ later ≡ for_rank old.here (letters ++ more) = ap (λ h. run ++ for_rank h more) same_here ∙ sym (filter-append _ letters more) in
      let away_is : elsewhere old.here letters ++ elsewhere mid.here more ≡ elsewhere old.here (letters ++ more) =
      ap (λ h. elsewhere old.here letters ++ elsewhere h more) same_here ∙ sym (filter-append (λ l. not (l.to == old.here)) letters more) in
      record {
        begun = subst (λ xs. HasBegun apply old.here old.layout.ranks (folded apply old xs) new.contents new.waiting given) run_is
            (begun_same new.waiting given _ _ new.contents (folded_on apply old mid new same_here same_layout run first.contents later) second.begun);
        held = subst (λ xs. GainsBoth old.here (held_letters old) (held_letters new) (handed apply old xs ++ given) (elsewhere old.here (letters ++ more))) run_is
            (subst (GainsBoth old.here (held_letters old) (held_letters new) (handed apply old (run ++ later) ++ given)) away_is
            (subst (λ xs. GainsBoth old.here (held_letters old) (held_letters new) xs (elsewhere old.here letters ++ elsewhere mid.here more)) (sym on)
            (both_more old.here (held_letters old) (held_letters mid) (held_letters new) _ _ _ _ first.held held)));
        run_count = omega (arith, first.run_count, second.run_count, ap length run_is, length-append run later);
        sent_count = omega (
          arith,
          first.sent_count,
          second.sent_count,
          ap length on,
          length-append (handed apply old (run ++ later)) given,
          length-append (handed apply old run) (handed apply mid later ++ given),
          length-append (handed apply mid later) given,
          ap (λ xs. length (handed apply old xs)) run_is,
        );
        told = subst (HeardOrLacksLast old.heard new.heard) run_is (lacks_then old.heard mid.heard new.heard run later first.told second.told);
      }

  pub full_later : (run more : List Letter) → mid.most ≡ old.most → mid.contents ≡ folded apply old run → mid.sent_count ≡ old.sent_count + length (handed apply old run) →
      mid.heard ≡ with_letters old.heard run → IsFullAfter apply mid new more → IsFullAfter apply old new (run ++ more)
  full_later run more most contents sent told full =
      let all = more ++ full.next ∷ [] in
      record {
        next = full.next;
        waits = full.waits;
        too_many = omega (
          arith,
          full.too_many,
          most,
          sent,
          ap length (handed_on apply old mid new same_here same_layout run contents all),
          length-append (handed apply old run) (handed apply mid all),
          ap (λ xs. length (handed apply old xs)) (append_assoc run more (full.next ∷ [])),
        );
        told = heard_then old.heard mid.heard new.heard run more told full.told;
      }

-- the first letters passed, and then one couldn't
pub stuck_among : {C : Type 0} (apply : Applies C) (old mid new : Rank C) → IsSameRank old mid → (letters : List Letter) → old.waiting ≡ letters ++ mid.waiting → HasPassed apply old mid letters →
    (fault : CommFault) → StuckIn apply mid new mid.waiting fault → StuckIn apply old new old.waiting fault
stuck_among apply old mid new same letters waits passed fault stuck =
    let run = for_rank old.here letters in
    let run_is : run ++ for_rank mid.here stuck.letters ≡ for_rank old.here (letters ++ stuck.letters) =
    ap (λ h. run ++ for_rank h stuck.letters) same.here ∙ sym (filter-append _ letters stuck.letters) in
    record {
      letters = letters ++ stuck.letters;
      given = stuck.given;
      waits = waits ∙ ap (λ w. letters ++ w) stuck.waits ∙ sym (append_assoc letters stuck.letters new.waiting);
      stuck = stuck_later apply old mid new same.here same.layout letters stuck.letters stuck.given passed stuck.stuck;
      full_at_first = if_full fault
          (λ _ full. subst (IsFullAfter apply old new) run_is (full_later apply old mid new same.here same.layout run (for_rank mid.here stuck.letters) same.most passed.contents passed.sent_count passed.told full)) stuck.full_at_first;
      cause = cause_on apply old mid new same.most fault stuck.cause;
    }
