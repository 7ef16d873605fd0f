-- What a put of a control letter does to a barrier, its rank and the post.
use Rattle.std.proofs.Common.{◌≡◌, ℕ, ◌+◌, ◌<◌, ◌≤◌, ◌^◌, Bool, true, false, nat_eq, eqb-true, None, List, [], ◌∷◌, ◌++◌, refl, sym, ap, ◌∙◌, subst, append-nil, inl, inr, arith}
use Rattle.std.proofs.lemmas.Bool.{eqb-false}
use Rattle.msg_codec.specs.Control.{ControlFits, is_control, is_count, is_total, letter_of_control, spelled_counts}
use Rattle.msg_codec.specs.declared.control.Control.TheVariants.{Count, Total}
use Rattle.msg_codec.specs.declared.letter.Letter.{Letter}
use Rattle.world_core.specs.declared.entry.Entry.TheVariants.{Put}
use Rattle.world_core.specs.Counts.{counts}
use Rattle.world_core.specs.Limits.{most_arrived}
use Rattle.world_core.specs.Local.{having_put}
use Rattle.world_core.specs.Pairs.{of_sender}
use Rattle.world_core.specs.Post.{FullsRise, PostState, PutDone, PutKeeps, SameFulls, SamePost, local_at}
use Rattle.world_core.specs.Rounds.{Sums}
use Rattle.world_core.specs.Rules.{IsHonest, first_broken}
use Rattle.world_core.specs.Rules.Deed.{Puts}
use Rattle.comm_rank.specs.Agrees.{Agrees, MayTurn}
use Rattle.comm_rank.specs.Fold.{Applies}
use Rattle.comm_rank.specs.Rank.{IsIdle, Rank, held_letters, local_of}
use Rattle.comm_rank.specs.Turns.{PutsKeep}
use Rattle.comm_rank.proofs.Agrees.AfterControl.{put_count, put_total}
use Rattle.comm_rank.proofs.Moves.OnePut.{honest_put, puts_keep}
use Rattle.term_barrier.specs.Barriers.{BarrierAgrees, BarrierState, HasEveryCount, InRange, IsTotalDue, round_sums, with_count_put, with_total_put}
use Rattle.term_barrier.specs.Polls.{HasPutControls, Stands}
use Rattle.term_barrier.proofs.Barriers.Rounds.{sums_are}
use Rattle.term_barrier.proofs.Polls.Stands.{stands_unchanged}
use Rattle.term_barrier.proofs.Puts.Agrees.{agrees_count, agrees_total}
use Rattle.term_barrier.proofs.Puts.Due.{count_due, total_due}
use Rattle.term_barrier.proofs.Puts.Log.{is_free-total}

-- ---- what the post keeps

pub keeps_done : (here : ℕ) (old new : PostState) → PutKeeps here old new → SameFulls old new → PutsKeep here old new
keeps_done here old new keeps fulls = puts_keep here old new keeps (record {
  fulls = λ rank. omega (arith, fulls rank);
  misses = λ rank. omega (arith, keeps.misses rank);
  halts = omega (arith, keeps.halts);
})

pub keeps_full : (here to : ℕ) (old new : PostState) → PutKeeps here old new → FullsRise to old new → PutsKeep here old new
keeps_full here to old new keeps fulls = puts_keep here old new keeps (record {
  fulls = λ rank. by_rank rank (nat_eq rank to) refl;
  misses = λ rank. omega (arith, keeps.misses rank);
  halts = omega (arith, keeps.halts);
})
  where
    by_rank : (rank : ℕ) (b : Bool) → nat_eq rank to ≡ b → old.fulls rank ≤ new.fulls rank
    by_rank rank true same = let there : rank ≡ to = eqb-true rank to same in omega (arith, fulls.never_falls, ap old.fulls there, ap new.fulls there)
    by_rank rank false other = omega (arith, fulls.others rank (eqb-false rank to other))

-- ---- no put

pub put_none : (held : List Letter) (barrier : BarrierState) (before after : PostState) → after.log barrier.here ≡ before.log barrier.here →
    PutsKeep barrier.here before after → HasPutControls held barrier barrier before after
put_none held barrier before after log keeps = record {
  controls = [];
  log = log ∙ sym (append-nil (before.log barrier.here));
  each = tt;
  counted = omega arith;
  none_held = λ some. absurd (omega (arith, some));
  barrier = refl;
  keeps = keeps;
  honest = (let now : local_at after barrier.here ≡ local_at before barrier.here = (let a = keeps.same.layout in let b = keeps.same.scheme in cc) in subst IsHonest (sym now));
}

pub stands_still : {C : Type 0} (apply : Applies C) (start : C → C) (barrier : BarrierState) (me : Rank C) (before after : PostState) →
    Stands apply start barrier me before → SamePost barrier.here before after → after.log barrier.here ≡ before.log barrier.here → Stands apply start barrier me after
stands_still apply start barrier me before after stands same unchanged =
    let log : after.log me.here ≡ before.log me.here = subst (λ h. after.log h ≡ before.log h) stands.agrees.here unchanged in
    stands_unchanged apply start barrier me barrier.here before after same log stands

-- ---- one put

module _ (held : List Letter) (old new : BarrierState) (to : ℕ) (l : Letter) (before after : PostState) where
  put_one : is_control l ≡ true → first_broken (local_at before old.here) (Puts to (l ∷ [])) ≡ None →
      PutDone old.here to (l ∷ []) before after → PutKeeps old.here before after →
      new.counted ≡ old.counted + counts (Put to (l ∷ []) ∷ []) → (0 < counts (Put to (l ∷ []) ∷ []) → held ≡ []) →
      new ≡ record old { counted = new.counted; over = new.over; next = new.next } → HasPutControls held old new before after
  put_one control ok done keeps counted none_held same = record {
    controls = Put to (l ∷ []) ∷ [];
    log = done.log;
    each = ((control, tt), tt);
    counted = counted;
    none_held = none_held;
    barrier = same;
    keeps = keeps_done old.here before after keeps done.fulls;
    honest = honest_put old.here to (l ∷ []) before after keeps.same done.log ok;
  }

module _ {C : Type 0} (apply : Applies C) (start : C → C) (old new : BarrierState) (me : Rank C) (to : ℕ) (l : Letter) (before after : PostState)
    (stands : Stands apply start old me before) (all_handed : me.controls ≡ []) where
  stands_put : PutDone old.here to (l ∷ []) before after → SamePost old.here before after →
      Agrees apply start me (before.log me.here ++ Put to (l ∷ []) ∷ []) → MayTurn me (before.log me.here ++ Put to (l ∷ []) ∷ []) →
      BarrierAgrees new [] (having_put (local_of me (before.log me.here)) to (l ∷ [])) → Stands apply start new me after
  stands_put done same agrees may both =
      let log : after.log me.here ≡ before.log me.here ++ Put to (l ∷ []) ∷ [] =
      subst (λ h. after.log h ≡ before.log h ++ Put to (l ∷ []) ∷ []) stands.agrees.here done.log in
      record {
        belongs = record {
          serves = same.serves me.here ∙ stands.belongs.serves;
          layout = same.layout ∙ stands.belongs.layout;
          scheme = same.scheme ∙ stands.belongs.scheme;
          agrees = subst (Agrees apply start me) (sym log) agrees;
        };
        may_turn = subst (MayTurn me) (sym log) may;
        agrees = subst (λ entries. BarrierAgrees new me.controls (local_of me entries)) (sym log)
            (subst (λ kept. BarrierAgrees new kept (local_of me (before.log me.here ++ Put to (l ∷ []) ∷ []))) (sym all_handed) both);
      }

-- ---- the letters

count_control : (rank q s r : ℕ) → is_control (letter_of_control (Count rank q s r)) ≡ true
unfolding spelled_counts
count_control rank q s r = refl

count_is : (rank q s r : ℕ) → is_count (letter_of_control (Count rank q s r)) ≡ true
unfolding spelled_counts
count_is rank q s r = refl

one_count : (to rank q s r : ℕ) → counts (Put to (letter_of_control (Count rank q s r) ∷ []) ∷ []) ≡ 1
unfolding spelled_counts
one_count to rank q s r = refl

total_control : (to q s r : ℕ) → is_control (letter_of_control (Total to q s r)) ≡ true
unfolding spelled_counts
total_control to q s r = refl

total_is : (to q s r : ℕ) → is_total (letter_of_control (Total to q s r)) ≡ true
unfolding spelled_counts
total_is to q s r = refl

total_no_count : (to q s r : ℕ) → is_count (letter_of_control (Total to q s r)) ≡ false
unfolding spelled_counts
total_no_count to q s r = refl

no_count : (link to q s r : ℕ) → counts (Put link (letter_of_control (Total to q s r) ∷ []) ∷ []) ≡ 0
unfolding spelled_counts
no_count link to q s r = refl

-- ---- a Count

module _ {C : Type 0} (apply : Applies C) (start : C → C) (barrier : BarrierState) (me : Rank C) (before : PostState)
    (stands : Stands apply start barrier me before) (range : InRange barrier) (all_handed : me.controls ≡ []) where
  one : BarrierAgrees barrier [] (local_of me (before.log me.here))
  one = subst (λ kept. BarrierAgrees barrier kept (local_of me (before.log me.here))) all_handed stands.agrees

  module _ (s r : ℕ) (s_is : s ≡ me.sent_count) (r_is : r ≡ me.run_count) (idle : IsIdle me) (all_known : barrier.counted ≤ barrier.known)
      (fits : ControlFits (Count barrier.here barrier.counted s r)) where
    abbrev this_count : Letter
    this_count = letter_of_control (Count barrier.here barrier.counted s r)

    abbrev IsUnbroken : ℕ → ℕ → ℕ → Type 0
    IsUnbroken h sent run = ControlFits (Count h barrier.counted sent run) →
        first_broken (local_at before h) (Puts 0 (letter_of_control (Count h barrier.counted sent run) ∷ [])) ≡ None

    pub count_unbroken : first_broken (local_at before barrier.here) (Puts 0 (this_count ∷ [])) ≡ None
    count_unbroken =
        let due : IsUnbroken me.here me.sent_count me.run_count =
        λ fits. count_due apply start barrier me before stands range all_handed idle all_known fits in
        let here : IsUnbroken barrier.here me.sent_count me.run_count = subst (λ h. IsUnbroken h me.sent_count me.run_count) (sym one.here) due in
        let sent : IsUnbroken barrier.here s me.run_count = subst (λ n. IsUnbroken barrier.here n me.run_count) (sym s_is) here in
        subst (λ n. IsUnbroken barrier.here s n) (sym r_is) sent fits

    module _ (after : PostState) (done : PutDone barrier.here 0 (this_count ∷ []) before after) (keeps : PutKeeps barrier.here before after) where
      pub count_controls : HasPutControls (held_letters me) barrier (with_count_put barrier) before after
      count_controls =
          put_one (held_letters me) barrier (with_count_put barrier) 0 this_count before after
          (count_control barrier.here barrier.counted s r) count_unbroken done keeps
          (ap (λ n. barrier.counted + n) (sym (one_count 0 barrier.here barrier.counted s r)))
          (λ some. idle.0) refl

      pub count_stands : barrier.inside ≡ true → Stands apply start (with_count_put barrier) me after
      count_stands inside =
          let count : is_count this_count ≡ true = count_is barrier.here barrier.counted s r in
          stands_put apply start barrier (with_count_put barrier) me 0 this_count before after stands all_handed done keeps.same
          (put_count apply start me (before.log me.here) 0 this_count (count_control barrier.here barrier.counted s r)
          stands.belongs.agrees count idle)
          (inr (ap (of_sender me.here) idle.0))
          (agrees_count barrier (local_of me (before.log me.here)) this_count inside count one)

  -- ---- a Total

  abbrev this_total : ℕ → Sums → Letter
  this_total to sums = letter_of_control (Total to barrier.over sums.sent sums.run)

  pub few_sums : HasEveryCount barrier → ((round_sums barrier).sent ≤ most_arrived) × ((round_sums barrier).run ≤ most_arrived)
  few_sums every =
      let modest = stands.belongs.agrees.modest in
      let all = sums_are barrier (local_of me (before.log me.here)) modest one range every in
      (omega (arith, all.0, modest.control.few_sent barrier.over), omega (arith, all.1, modest.control.few_run barrier.over))

  module _ (first : barrier.here ≡ 0) (to : ℕ) (sums : Sums) (due : IsTotalDue barrier to sums) (to_fits : to < 2 ^ 32) where
    fits : ControlFits (Total to barrier.over sums.sent sums.run)
    fits =
        let few = few_sums due.every in (
          to_fits,
          record {
            round_fits = omega (arith, due.counted, range.counted_few, range.few);
            sent_fits = omega (arith, few.0, ap (λ (s : Sums). s.sent) due.sums_are);
            run_fits = omega (arith, few.1, ap (λ (s : Sums). s.run) due.sums_are);
          },
        )

    pub total_unbroken : first_broken (local_at before barrier.here) (Puts to (this_total to sums ∷ [])) ≡ None
    total_unbroken =
        subst (λ h. first_broken (local_at before h) (Puts to (this_total to sums ∷ [])) ≡ None) (sym first)
        (total_due apply start barrier me before stands range all_handed to sums (sym one.here ∙ first) due fits)

    module _ (after : PostState) (done : PutDone barrier.here to (this_total to sums ∷ []) before after) (keeps : PutKeeps barrier.here before after) where
      abbrev now : BarrierState
      now = with_total_put barrier to

      same_but_totals : (b : Bool) → nat_eq to 0 ≡ b → (now.counted ≡ barrier.counted) × (now ≡ record barrier { counted = now.counted; over = now.over; next = now.next })
      same_but_totals true is = rw is (refl, refl)
      same_but_totals false is = rw is (refl, refl)

      pub total_controls : HasPutControls (held_letters me) barrier now before after
      total_controls =
          let same = same_but_totals (nat_eq to 0) refl in
          let none : counts (Put to (this_total to sums ∷ []) ∷ []) ≡ 0 = no_count to to barrier.over sums.sent sums.run in
          put_one (held_letters me) barrier now to (this_total to sums) before after
          (total_control to barrier.over sums.sent sums.run) total_unbroken done keeps
          (omega (arith, same.0, none)) (λ some. absurd (omega (arith, some, none))) same.1

      pub total_stands : barrier.inside ≡ true → Stands apply start now me after
      total_stands inside =
          let total : is_total (this_total to sums) ≡ true = total_is to barrier.over sums.sent sums.run in
          let local = local_of me (before.log me.here) in
          stands_put apply start barrier now me to (this_total to sums) before after stands all_handed done keeps.same
          (put_total apply start me (before.log me.here) to (this_total to sums) (total_control to barrier.over sums.sent sums.run)
          stands.belongs.agrees (total_no_count to barrier.over sums.sent sums.run))
          (elim stands.may_turn [
            | inl free ↦ inl (is_free-total local to (this_total to sums) total ∙ free)
            | inr none ↦ inr none
          ])
          (agrees_total barrier local (this_total to sums) inside to total range due.next one)
