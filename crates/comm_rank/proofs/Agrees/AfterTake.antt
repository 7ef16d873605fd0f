-- A rank takes a batch, and its letters run or are held to be forwarded.
use Rattle.std.proofs.Common.{◌≡◌, ◌≢◌, ℕ, ◌+◌, ◌≤◌, true, false, nat_eq, eq-eqb, ne_eqb, List, [], ◌∷◌, ◌++◌, length, refl, sym, ap, ◌∙◌, subst, inl, inr, arith, append-nil, append_assoc, length-append, if◌then◌else◌}
use Rattle.std.specs.List.{AllByRecursion, filter}
use Rattle.msg_codec.specs.Control.{is_control}
use Rattle.std.proofs.lemmas.List.{nil_from_length}
use Rattle.std.proofs.lemmas.List.Elements.{filter-append}
use Rattle.msg_codec.specs.declared.letter.Letter.{Letter}
use Rattle.ygm_route.specs.declared.scheme.Scheme.{Scheme}
use Rattle.ygm_route.specs.Layout.{IsLayout, Shape}
use Rattle.world_core.specs.declared.entry.Entry.{Entry}
use Rattle.world_core.specs.declared.entry.Entry.TheVariants.{Put, Took}
use Rattle.world_core.specs.Limits.{most_arrived}
use Rattle.world_core.specs.Local.{Local}
use Rattle.world_core.specs.Log.{batches_taken, letters_taken}
use Rattle.world_core.specs.Modest.{IsModest}
use Rattle.world_core.specs.Pairs.{arrived, for_rank, is_of_pair, of_pair, of_sender, own_count, pair_put, sent_number}
use Rattle.world_core.specs.Post.{SamePost, PostState, TookBatch, local_at}
use Rattle.world_core.specs.Rules.{IsHonest}
use Rattle.world_core.specs.ControlRules.{is_free}
use Rattle.world_core.proofs.Counts.StaysFree.{free_took, stays_free}
use Rattle.world_core.proofs.Deeds.Honest.{honest_more}
use Rattle.world_core.proofs.Pairs.Appended.{pair_put-took}
use Rattle.world_core.proofs.Pairs.Numbers.{own_count-took, run_number-is, sent_number-is}
use Rattle.world_core.proofs.Log.Appended.{batches_taken-took, letters_taken-took}
use Rattle.list_facts.specs.Prefix.{IsSuffix}
use Rattle.list_facts.specs.Sublist.{IsSublist}
use Rattle.comm_rank.specs.Agrees.{Agrees, Belongs, Forwards, IsServed, MayTurn}
use Rattle.comm_rank.specs.Fold.{Applies, fold_from, handed_from}
use Rattle.comm_rank.specs.Rank.{Rank, IsSameRank, handed, held_letters, local_of, ran_at, sent_to}
use Rattle.comm_rank.specs.declared.fault.CommFault.{CommFault}
use Rattle.comm_rank.specs.declared.fault.CommFault.TheVariants.{NoMemory}
use Rattle.comm_rank.specs.Running.{CutFrom, GainsBoth, HasPassed, IsControl, IsTaken, NotLookedAt, StuckIn, TookFrom, WasCutFrom, begins_with_control, elsewhere, for_handlers}
use Rattle.comm_rank.specs.Turns.{Advanced}
use Rattle.list_facts.proofs.Sublist.{sublist_append}
use Rattle.comm_rank.proofs.Agrees.Served.{served_more, suffix_longer}
use Rattle.comm_rank.proofs.Agrees.Arrived.{Brings, arrived-took, brings, forward_more, is_read, its_controls, no_more_put, ran_all, ran_is}
use Rattle.comm_rank.proofs.Fold.Appended.{fold-append, handed-append, start_fold}
use Rattle.comm_rank.proofs.Told.Heard.{heard_none}
use Rattle.comm_rank.proofs.Turns.Faults.{if_full}

-- ---- the letters of the batch wait

pub passed_waiting : {C : Type 0} (apply : Applies C) (was old new : Rank C) (waiting batch : List Letter) → was ≡ old → waiting ≡ batch →
    HasPassed apply (record was { waiting = waiting }) new waiting → HasPassed apply old new batch
passed_waiting {C} apply was old new waiting batch e f h =
    let there : HasPassed apply was new waiting = record { contents = h.contents; held = h.held; run_count = h.run_count; sent_count = h.sent_count; told = h.told } in
    subst (λ (me : Rank C). HasPassed apply me new batch) e (subst (HasPassed apply was new) f there)

pub stuck_waiting : {C : Type 0} (apply : Applies C) (was old new : Rank C) (waiting batch : List Letter) → was ≡ old → waiting ≡ batch →
    (fault : CommFault) → StuckIn apply (record was { waiting = waiting }) new waiting fault → StuckIn apply old new batch fault
stuck_waiting {C} apply was old new waiting batch e f fault h =
    let s = h.stuck in
    let there : StuckIn apply was new waiting fault = record {
      letters = h.letters;
      given = h.given;
      waits = h.waits;
      stuck = record { begun = s.begun; held = s.held; run_count = s.run_count; sent_count = s.sent_count; told = s.told };
      full_at_first = if_full fault (λ _ b. record { next = b.next; waits = b.waits; too_many = b.too_many; told = b.told }) h.full_at_first;
      cause = record { count_full = h.cause.count_full; gave = h.cause.gave; never_stopped = h.cause.never_stopped };
    } in
    subst (λ (me : Rank C). StuckIn apply me new batch fault) e (subst (λ b. StuckIn apply was new b fault) f there)

-- ---- at a rank's place

same_local : (l m : Shape) (s t : Scheme) (h k : ℕ) (log : List Entry) → l ≡ m → s ≡ t → h ≡ k →
    (let x : Local = record { layout = l; scheme = s; here = h; log = log } in x) ≡ record { layout = m; scheme = t; here = k; log = log }
same_local l m s t h k log a b c = cc

pub modest_at : {C : Type 0} (state : PostState) (me : Rank C) (layout : Shape) (scheme : Scheme) → state.layout ≡ layout → state.scheme ≡ scheme → layout ≡ me.layout → scheme ≡ me.scheme →
    IsModest (local_at state me.here) → IsModest (local_of me (state.log me.here))
modest_at state me layout scheme a b c d h = subst IsModest (same_local _ _ _ _ _ _ (state.log me.here) (a ∙ c) (b ∙ d) refl) h

pub local_is : {C : Type 0} (old new : Rank C) (log : List Entry) → IsSameRank old new → local_of old log ≡ local_of new log
local_is old new log same = same_local _ _ _ _ _ _ log (sym same.layout) (sym same.scheme) (sym same.here)

pub honest_took : {C : Type 0} (me : Rank C) (log after : List Entry) (from : ℕ) (batch : List Letter) → after ≡ log ++ Took from batch ∷ [] → IsHonest (local_of me log) → IsHonest (local_of me after)
honest_took me log after from batch is honest =
    let P : List Entry → Type 0 = λ xs. IsHonest (local_of me xs) in
    subst P (sym is) (honest_more (local_of me log) (Took from batch) honest (λ to letters e. absurd (let f : Took from batch ≡ Put to letters = e in cc)))

pub taken_here : (from : ℕ) (batch : List Letter) (log after : List Entry) → after ≡ log ++ Took from batch ∷ [] → length (batches_taken from after) ≡ length (batches_taken from log) + 1
taken_here from batch log after is =
    let same : nat_eq from from ≡ true = eq-eqb from from refl in
    let more : batches_taken from after ≡ batches_taken from log ++ batch ∷ [] = ap (batches_taken from) is ∙ batches_taken-took log from from batch ∙ rw same refl in
    omega (arith, ap length more, length-append (batches_taken from log) (batch ∷ []))

pub taken_other : (from other : ℕ) (batch : List Letter) (log after : List Entry) → after ≡ log ++ Took from batch ∷ [] → other ≢ from → batches_taken other after ≡ batches_taken other log
taken_other from other batch log after is ne =
    let apart : nat_eq from other ≡ false = ne_eqb from other (λ e. ne (sym e)) in
    ap (batches_taken other) is ∙ batches_taken-took log from other batch ∙ rw apart (append-nil (batches_taken other log))

-- ---- the rank afterwards

module _ {C : Type 0} (apply : Applies C) (old new : Rank C) (log after : List Entry) (from : ℕ) (batch letters : List Letter) (same : IsSameRank old new) (gained : after ≡ log ++ Took from batch ∷ [])
    (brings : Brings old.layout.ranks old.here batch letters) (kept : new.controls ≡ old.controls ++ filter is_control batch) where
  -- those of its letters that run
  abbrev run : List Letter
  run = for_rank old.here letters

  pub arrived_now : arrived old.here after ≡ arrived old.here log ++ run
  arrived_now = ap (arrived old.here) gained ∙ arrived-took old.here log from batch ∙ ap (λ xs. arrived old.here log ++ xs) brings.for_here

  pub arrived_there : arrived new.here after ≡ arrived old.here log ++ run
  arrived_there = ap (λ h. arrived h after) same.here ∙ arrived_now

  sent_more : (given others : List Letter) → GainsBoth old.here (held_letters old) (held_letters new) given others → (to : ℕ) → sent_to new after to ≡ sent_to old log to ++ of_pair old.here to given
  sent_more given others gains to =
      ap (λ h. pair_put h to after ++ of_pair h to (held_letters new)) same.here
      ∙ ap (λ xs. xs ++ of_pair old.here to (held_letters new)) (ap (pair_put old.here to) gained ∙ pair_put-took old.here to log from batch)
      ∙ ap (λ xs. pair_put old.here to log ++ xs) (gains.own to)
      ∙ sym (append_assoc (pair_put old.here to log) (of_pair old.here to (held_letters old)) (of_pair old.here to given))

  one_taken : for_rank old.here (letters_taken (Took from batch ∷ [])) ≡ run
  one_taken = ap (for_rank old.here) (append-nil batch) ∙ brings.for_here

  -- its control letters wait to be handed over
  kept_one : new.controls ≡ old.controls ++ filter is_control (letters_taken (Took from batch ∷ []))
  kept_one = kept ∙ ap (λ xs. old.controls ++ filter is_control xs) (sym (append-nil batch))

  ran_old : old.waiting ≡ [] → arrived old.here log ≡ ran_at old log
  ran_old none = sym (ran_all old log none)

  pub advanced : old.waiting ≡ [] → new.waiting ≡ [] → HasPassed apply old new letters → Advanced apply old new log after run
  advanced before none passed = record {
    ran = ran_all new after none ∙ arrived_there ∙ ap (λ xs. xs ++ run) (ran_old before);
    contents = passed.contents;
    sent = sent_more (handed apply old run) (elsewhere old.here letters) passed.held;
    run_count = passed.run_count;
    sent_count = passed.sent_count;
    told = passed.told;
  }

  pub took_from : old.waiting ≡ [] → new.waiting ≡ [] → HasPassed apply old new letters → TookFrom from apply old new log after 1
  took_from before none passed = record {
    all = record {
      taken = Took from batch ∷ [];
      gained = record { log = gained; takes = (tt, tt); in_order = λ i j d less within. absurd (omega (arith, less, within)) };
      advanced = subst (Advanced apply old new log after) (sym one_taken) (advanced before none passed);
      nothing_waits = none;
      controls = kept_one;
      took_count = refl;
      same_open = λ none_taken. absurd (omega (arith, none_taken));
    };
    alone = (refl, tt);
    one = omega arith;
  }

  module _ (before : old.waiting ≡ []) (fault : CommFault) (stuck : StuckIn apply old new letters fault) where
    -- of the letters for the rank, those that passed ran, and the others wait
    abbrev part : List Letter
    part = for_rank old.here stuck.letters

    parts : run ≡ part ++ for_rank old.here new.waiting
    parts = ap (for_rank old.here) stuck.waits ∙ filter-append _ stuck.letters new.waiting

    ran_some : ran_at new after ≡ ran_at old log ++ part
    ran_some =
        ran_is new after (ran_at old log ++ part) (for_rank old.here new.waiting)
        (arrived_there ∙ ap (λ xs. xs ++ run) (ran_old before) ∙ ap (λ xs. ran_at old log ++ xs) parts ∙ sym (append_assoc (ran_at old log) part (for_rank old.here new.waiting)))
        (ap (λ h. for_rank h new.waiting) same.here)

    cut_at : CutFrom from apply old new log after
    cut_at = record {
      cut = record {
        taken = Took from batch ∷ [];
        placed = [];
        run = part;
        given = stuck.given;
        gained = record { log = gained ∙ sym (append-nil _); takes = (tt, tt); in_order = λ i j d less within. absurd (omega (arith, less, within)); puts = tt; data_alone = tt };
        arrived = one_taken ∙ parts;
        ran = ran_some;
        controls = kept_one;
        begun = stuck.stuck.begun;
        sent = sent_more (handed apply old part ++ stuck.given) (elsewhere old.here stuck.letters) stuck.stuck.held;
        run_count = stuck.stuck.run_count;
        sent_count = stuck.stuck.sent_count;
        told = stuck.stuck.told;
      };
      none_placed = refl;
      alone = (refl, tt);
      one = omega arith;
    }

    pub cut_from : WasCutFrom from apply old new log after fault
    cut_from = record {
      cut_from = cut_at;
      full_at_first = if_full fault (λ _ full. record { run = part; ran = ran_some; full = full }) stuck.full_at_first;
      cause = stuck.cause;
    }

  -- Letters for the rank free its log. Without them it holds what it held.
  pub may_turn_now : HasPassed apply old new letters → MayTurn old log → MayTurn new after
  may_turn_now passed may =
      let here = old.here in
      let now : local_of old (log ++ Took from batch ∷ []) ≡ local_of new after = ap (local_of old) (sym gained) ∙ local_is old new after same in
      elim may [
        | inl free ↦ inl (ap is_free (sym now) ∙ stays_free (local_of old log) (Took from batch) refl free)
        | inr none ↦ by_run run refl (passed.held.number) none now
      ]
    where
      by_run : (xs : List Letter) → run ≡ xs → sent_number old.here (held_letters new) ≡ sent_number old.here (held_letters old) + length (handed apply old xs) →
          of_sender old.here (held_letters old) ≡ [] → local_of old (log ++ Took from batch ∷ []) ≡ local_of new after → MayTurn new after
      by_run [] is number none now =
          let P : ℕ → Type 0 = λ h. of_sender h (held_letters new) ≡ [] in
          inr (subst P (sym same.here) (nil_from_length _ (omega (
            arith,
            number,
            ap length none,
            sent_number-is old.here (held_letters old),
            sent_number-is old.here (held_letters new),
          ))))
      by_run (l ∷ xs) is number none now =
          inl (ap is_free (sym now) ∙ free_took (local_of old log) from batch (omega (arith, run_number-is old.here batch, ap length (brings.for_here ∙ is))))

  -- what the rank took of a pair and doesn't run is held to be forwarded
  forwards_now : Forwards (local_of old log) (held_letters old) → HasPassed apply old new letters → Forwards (local_of new after) (held_letters new)
  forwards_now before passed =
      let now : local_of old (log ++ Took from batch ∷ []) ≡ local_of new after = ap (local_of old) (sym gained) ∙ local_is old new after same in
      let there : Forwards (local_of old (log ++ Took from batch ∷ [])) (held_letters new) = record {
        held = λ f to other.
            passed.held.others f to other ∙ ap (λ xs. xs ++ of_pair f to (elsewhere old.here letters)) (before.held f to other)
            ∙ sym (forward_more (local_of old log) from batch letters brings f to other (before.no_more_put f to other));
        no_more_put = λ f to other. no_more_put (local_of old log) from batch letters brings f to other (before.no_more_put f to other);
      } in
      subst (λ (me : Local). Forwards me (held_letters new)) now there

  module _ (start : C → C) (keeps : (c : C) (here ranks : ℕ) (l : Letter) → start (apply c here ranks l).0 ≡ start c) (agrees : Agrees apply start old log) where
    pub agrees_now : new.waiting ≡ [] → HasPassed apply old new letters → IsModest (local_of old after) → Agrees apply start new after
    agrees_now none passed modest =
        let adv = advanced agrees.nothing_waits none passed in
        let here = old.here in
        let n = old.layout.ranks in
        let started : start new.contents ≡ start old.contents = ap start passed.contents ∙ start_fold apply start keeps here n old.contents run in
        let given = handed apply old run in
        let at_start : handed_from apply here n (start old.contents) (ran_at new after) ≡ handed_from apply here n (start old.contents) (ran_at old log) ++ given =
        ap (handed_from apply here n (start old.contents)) adv.ran ∙ handed-append apply here n (start old.contents) (ran_at old log) run
        ∙ ap (λ c. handed_from apply here n (start old.contents) (ran_at old log) ++ handed_from apply here n c run) (sym agrees.contents) in
        let place : (h m : ℕ) (c : C) → h ≡ here → m ≡ n → c ≡ start old.contents → handed_from apply h m c (ran_at new after) ≡ handed_from apply here n (start old.contents) (ran_at new after) =
        λ h m c a b d. ap (λ x. handed_from apply x m c (ran_at new after)) a ∙ ap (λ x. handed_from apply here x c (ran_at new after)) b ∙ ap (λ x. handed_from apply here n x (ran_at new after)) d in
        let ranks : new.layout.ranks ≡ n = ap (λ (s : Shape). s.ranks) same.layout in
        record {
          nothing_waits = none;
          forwards = forwards_now agrees.forwards passed;
          sent_count =
              let put : own_count new.here after ≡ own_count here log = ap (λ h. own_count h after) same.here ∙ ap (own_count here) gained ∙ own_count-took here log from batch in
              let held : sent_number new.here (held_letters new) ≡ sent_number here (held_letters new) = ap (λ h. sent_number h (held_letters new)) same.here in
              omega (arith, put, held, passed.sent_count, agrees.sent_count, passed.held.number);
          run_count = omega (arith, passed.run_count, agrees.run_count, ap length adv.ran, length-append (ran_at old log) run);
          contents =
              passed.contents ∙ ap (λ c. fold_from apply here n c run) agrees.contents ∙ sym (fold-append apply here n (start old.contents) (ran_at old log) run)
              ∙ ap (fold_from apply here n (start old.contents)) (sym adv.ran)
              ∙ ap (λ c. fold_from apply here n c (ran_at new after)) (sym started)
              ∙ ap (λ m. fold_from apply here m (start new.contents) (ran_at new after)) (sym ranks)
              ∙ ap (λ h. fold_from apply h new.layout.ranks (start new.contents) (ran_at new after)) (sym same.here);
          given_is_sent = λ to.
              let gave : of_pair new.here to (handed_from apply new.here new.layout.ranks (start new.contents) (ran_at new after))
              ≡ of_pair here to (handed_from apply here n (start old.contents) (ran_at old log)) ++ of_pair here to given =
              ap (λ h. of_pair h to (handed_from apply new.here new.layout.ranks (start new.contents) (ran_at new after))) same.here
              ∙ ap (of_pair here to) (place new.here new.layout.ranks (start new.contents) same.here ranks started ∙ at_start)
              ∙ filter-append (is_of_pair here to) (handed_from apply here n (start old.contents) (ran_at old log)) given in
              let P : List Letter → Type 0 = λ xs. IsSublist xs (sent_to new after to) in
              let Q : List Letter → Type 0 = λ xs. IsSublist (of_pair here to (handed_from apply here n (start old.contents) (ran_at old log)) ++ of_pair here to given) xs in
              subst P (sym gave) (subst Q (sym (adv.sent to)) (sublist_append (of_pair here to given) (agrees.given_is_sent to)));
          modest = subst IsModest (local_is old new after same) modest;
          controls =
              let all : filter is_control (letters_taken after) ≡ filter is_control (letters_taken log) ++ filter is_control batch =
              ap (λ xs. filter is_control (letters_taken xs)) gained ∙ ap (filter is_control) (letters_taken-took log from batch) ∙ filter-append is_control (letters_taken log) batch in
              subst (λ xs. IsSuffix xs (filter is_control (letters_taken after))) (sym kept)
              (subst (IsSuffix (old.controls ++ filter is_control batch)) (sym all) (suffix_longer old.controls (filter is_control (letters_taken log)) (filter is_control batch) agrees.controls));
          served =
              let now : IsServed apply here n (start old.contents) after = subst (IsServed apply here n (start old.contents)) (sym gained) (served_more apply here n (start old.contents) log (Took from batch ∷ []) refl agrees.served) in
              subst (λ c. IsServed apply new.here new.layout.ranks c after) (sym started)
              (subst (λ m. IsServed apply new.here m (start old.contents) after) (sym ranks) (subst (λ h. IsServed apply h n (start old.contents) after) (sym same.here) now));
        }

-- there was no memory to keep a control letter, and nothing was taken
pub cut_before : {C : Type 0} (from : ℕ) (apply : Applies C) (me : Rank C) (log : List Entry) → me.waiting ≡ [] → (fault : CommFault) → fault ≡ NoMemory → WasCutFrom from apply me me log log fault
cut_before {C} from apply me log none fault is = subst (WasCutFrom from apply me me log log) (sym is) (record {
  cut_from = record {
    cut = record {
      taken = [];
      placed = [];
      run = [];
      given = [];
      gained = record { log = sym (append-nil (log ++ []) ∙ append-nil log); takes = tt; in_order = λ i j d less within. absurd (omega (arith, less, within)); puts = tt; data_alone = tt };
      arrived = sym (ap (for_rank me.here) none);
      ran = sym (append-nil _);
      controls = sym (append-nil me.controls);
      begun = inl (refl, refl);
      sent = λ to. sym (append-nil _);
      run_count = omega arith;
      sent_count = omega arith;
      told = inl (heard_none me.heard);
    };
    none_placed = refl;
    alone = tt;
    one = omega arith;
  };
  full_at_first = tt;
  cause = record { count_full = tt; gave = tt; never_stopped = tt };
})

-- ---- what the post gave

pub record Arrival {C : Type 0} (old : Rank C) (before state : PostState) (from : ℕ) (batch : List Letter) : Type 0 where
  pub gained : state.log old.here ≡ before.log old.here ++ Took from batch ∷ []
  pub modest : IsModest (local_of old (state.log old.here))
  pub brings : Brings old.layout.ranks old.here batch (for_handlers batch)
  pub controls : filter is_control batch ≡ (if begins_with_control batch then batch else [])
  pub read : begins_with_control batch ≡ true → IsControl batch

pub arrival : {C : Type 0} (apply : Applies C) (start : C → C) (old : Rank C) (there : ℕ) (before state : PostState) (from : ℕ) (batch : List Letter) → there ≡ old.here → SamePost there before state →
    Belongs apply start old before → IsLayout old.layout → TookBatch there from batch before state → Arrival old before state from batch
arrival {C} apply start old there before state from batch here same belongs laid_out took =
    let P : ℕ → Type 0 = λ h. state.log h ≡ before.log h ++ Took from batch ∷ [] in
    let M : ℕ → Type 0 = λ h. IsModest (local_at state h) in
    let gained : P old.here = subst P here took.log in
    let at_old : IsModest (local_of old (state.log old.here)) = modest_at state old before.layout before.scheme same.layout same.scheme belongs.layout belongs.scheme (subst M here took.modest) in
    let N : List Entry → Type 0 = λ xs. IsModest (local_of old xs) in
    record {
      gained = gained;
      modest = at_old;
      brings = brings (local_of old (before.log old.here)) from batch laid_out (subst N gained at_old);
      controls = its_controls (local_of old (before.log old.here)) from batch laid_out (subst N gained at_old);
      read = is_read (local_of old (before.log old.here)) from batch laid_out (subst N gained at_old);
    }

pub few_run : {C : Type 0} (apply : Applies C) (start : C → C) (old : Rank C) (before state : PostState) (from : ℕ) (batch : List Letter) → Arrival old before state from batch →
    Agrees apply start old (before.log old.here) → old.run_count + length (for_rank old.here (for_handlers batch)) ≤ most_arrived
few_run apply start old before state from batch a agrees =
    let log = before.log old.here in
    let now = state.log old.here in
    let run = for_rank old.here (for_handlers batch) in
    let there : arrived old.here now ≡ arrived old.here log ++ run =
    ap (arrived old.here) a.gained ∙ arrived-took old.here log from batch ∙ ap (λ xs. arrived old.here log ++ xs) a.brings.for_here in
    omega (
      arith,
      agrees.run_count,
      ap length (ran_all old log agrees.nothing_waits),
      ap length there,
      length-append (arrived old.here log) run,
      a.modest.few,
      run_number-is old.here (letters_taken now),
    )

pub waiting_taken : {C : Type 0} (was old : Rank C) (batch waiting : List Letter) → was ≡ old → waiting ≡ batch → AllByRecursion (IsTaken old.layout.ranks old.here) batch → AllByRecursion (IsTaken was.layout.ranks was.here) waiting
waiting_taken {C} was old batch waiting e f all =
    subst (λ (me : Rank C). AllByRecursion (IsTaken me.layout.ranks me.here) waiting) (sym e) (subst (AllByRecursion (IsTaken old.layout.ranks old.here)) (sym f) all)

pub few_waiting : {C : Type 0} (was old : Rank C) (batch waiting : List Letter) → was ≡ old → waiting ≡ batch → old.run_count + length (for_rank old.here batch) ≤ most_arrived → was.run_count + length (for_rank was.here waiting) ≤ most_arrived
few_waiting {C} was old batch waiting e f few =
    subst (λ (me : Rank C). me.run_count + length (for_rank me.here waiting) ≤ most_arrived) (sym e) (subst (λ xs. old.run_count + length (for_rank old.here xs) ≤ most_arrived) (sym f) few)

pub same_from : {C : Type 0} (was old new : Rank C) (waiting : List Letter) → was ≡ old → IsSameRank (record was { waiting = waiting }) new → IsSameRank old new
same_from {C} was old new waiting e same =
    let there : IsSameRank was new = record { layout = same.layout; scheme = same.scheme; here = same.here; most = same.most } in
    subst (λ (me : Rank C). IsSameRank me new) e there

-- honesty, for the same rank
pub honest_on : {C : Type 0} (me old : Rank C) (log after : ℕ → List Entry) → IsSameRank old me → (IsHonest (local_of me (log me.here)) → IsHonest (local_of me (after me.here))) →
    IsHonest (local_of old (log old.here)) → IsHonest (local_of old (after old.here))
honest_on me old log after same keeps h =
    let P : (ℕ → List Entry) → ℕ → Type 0 = λ f k. IsHonest (local_of old (f k)) in
    let to_me : IsHonest (local_of me (log me.here)) = subst IsHonest (local_is old me (log me.here) same) (subst (P log) (sym same.here) h) in
    subst (P after) same.here (subst IsHonest (sym (local_is old me (after me.here) same)) (keeps to_me))

-- ---- the other ranks

pub same_log : (was here : ℕ) (old new : PostState) → was ≡ here → SamePost was old new → SamePost here old new
same_log was here old new e same = subst (λ h. SamePost h old new) e same

pub not_looked_none : (was here other : ℕ) (old new : PostState) → was ≡ here → new.log was ≡ old.log was → new.misses other ≡ old.misses other → NotLookedAt here other old new
not_looked_none was here other old new e log misses =
    let P : ℕ → Type 0 = λ h. new.log h ≡ old.log h in
    record { taken = ap (batches_taken other) (subst P e log); misses = misses }
