-- A rank carries its phases on through a poll. Where it leaves its barrier by that poll, its phase ends at the cut.
use Rattle.std.proofs.Common.{◌≡◌, ◌≢◌, ℕ, suc, ◌<◌, ◌≤◌, cond, false, List, [], refl, sym, ap, ◌∙◌, subst, inl, inr, arith}
use Rattle.std.proofs.lemmas.Bool.{cases_eq, eq-eqb, false≢true, ne_eqb}
use Rattle.list_facts.specs.Prefix.{IsPrefix}
use Rattle.msg_codec.specs.declared.letter.Letter.{Letter}
use Rattle.world_core.specs.declared.entry.Entry.{Entry}
use Rattle.world_core.specs.Counts.{counts}
use Rattle.world_core.specs.Local.{Local}
use Rattle.world_core.specs.Modest.{IsModest}
use Rattle.world_core.specs.Post.{PostState}
use Rattle.world_core.specs.Rounds.{barrier_start}
use Rattle.comm_rank.specs.Fold.{Applies}
use Rattle.comm_rank.specs.Rank.{IsSameRank, Rank, Worked, held_letters, local_of}
use Rattle.term_barrier.specs.declared.polled.Polled.{Polled}
use Rattle.term_barrier.specs.declared.polled.Polled.TheVariants.{Left, Waiting as Waits}
use Rattle.term_barrier.specs.declared.polled.Waiting.{Waiting}
use Rattle.term_barrier.specs.Account.{Account, IsUpToDate, RankHandler, handler_of}
use Rattle.term_barrier.specs.Barriers.{BarrierAgrees, BarrierState}
use Rattle.term_barrier.specs.Carried.{Carries, Phases, own_cuts, with_round}
use Rattle.term_barrier.specs.CountedPlace.{AreCountedPlaces}
use Rattle.term_barrier.specs.Cuts.{phase_start}
use Rattle.term_barrier.specs.Left.{HasLeft, left_cut}
use Rattle.term_barrier.specs.Polls.{PollEnded, PolledLeft, PolledWaiting}
use Rattle.term_barrier.proofs.Account.Kept.{account_same, same_start}
use Rattle.term_barrier.proofs.Account.Turned.{agrees_up_to_date}
use Rattle.term_barrier.proofs.Barriers.Rounds.{first_before, first_is, left_first}
use Rattle.term_barrier.proofs.Carried.Grown.{account_recut, cuts_grown, grown_there, left_grown, places_recut}
use Rattle.term_barrier.proofs.CountedPlace.Left.{account_left, counted_early, places_later}
use Rattle.term_barrier.proofs.CountedPlace.Polled.{account_poll, places_poll}
use Rattle.term_barrier.proofs.Polls.Ended.{same_going}
use Rattle.term_barrier.proofs.Waited.Polled.{polled_grows}

-- ---- the rounds at which barriers were left

round_there : (rounds : ℕ → ℕ) (barrier round : ℕ) → with_round rounds barrier round barrier ≡ round
round_there rounds barrier round = ap (λ b. cond b round (rounds barrier)) (eq-eqb barrier barrier refl)

round_elsewhere : (rounds : ℕ → ℕ) (barrier round k : ℕ) → k ≢ barrier → with_round rounds barrier round k ≡ rounds k
round_elsewhere rounds barrier round k ne = ap (λ b. cond b round (rounds k)) (ne_eqb k barrier ne)

-- ---- a poll that ended

module _ {C : Type 0} (apply : Applies C) (start : C → C)
    (keeps : (c : C) (here ranks : ℕ) (l : Letter) → start (apply c here ranks l).0 ≡ start c)
    (own : ℕ → ℕ → List Letter) (rounds : ℕ → ℕ) (old new : BarrierState) (one me : Rank C) (before after : PostState) (answer : Polled)
    (worked : Worked (record one { stopped = false }) me) (ended : PollEnded apply start old new one me before after answer)
    (carries : Carries apply start own rounds old one before) where
  abbrev log : List Entry
  log = before.log one.here

  abbrev log_now : List Entry
  log_now = after.log one.here

  abbrev now : Local
  now = local_of me log_now

  abbrev handler : RankHandler C
  handler = handler_of apply start me

  abbrev held : List Letter
  held = held_letters me

  abbrev phase : ℕ
  phase = old.left

  abbrev cuts : ℕ → ℕ
  cuts = own_cuts (local_of one log) rounds

  same : IsSameRank one me
  same = same_going one me worked

  modest : IsModest (local_of one log)
  modest = carries.stands.belongs.agrees.modest

  up : IsUpToDate apply start one log
  up = agrees_up_to_date apply start one log carries.stands.belongs.agrees

  grows : IsPrefix log log_now
  grows = polled_grows apply one me log log_now ended.turn ended.polled

  modest_now : IsModest now
  modest_now = subst (λ h. IsModest (local_of me (after.log h))) same.here ended.stands.belongs.agrees.modest

  agrees_now : BarrierAgrees new [] now
  agrees_now =
      let none : me.controls ≡ [] = ap (λ (r : Rank C). r.controls) ended.polled.handed_over in
      subst (λ kept. BarrierAgrees new kept now) none
      (subst (λ h. BarrierAgrees new me.controls (local_of me (after.log h))) same.here ended.stands.agrees)

  first_now : new.first ≡ barrier_start me.here log_now
  first_now = first_is new now modest_now agrees_now

  account_now : Account handler own cuts phase held log_now
  account_now = account_poll apply start keeps one me log log_now ended.turn up same ended.polled own cuts phase carries.phases.account

  places_now : AreCountedPlaces handler (own phase) (phase_start cuts phase) old.first held log_now
  places_now =
      places_poll apply start keeps one me log log_now ended.turn up same ended.polled own cuts phase old.first
      carries.phases.account carries.phases.places

  left_now : (k : ℕ) → k < phase → HasLeft now k (rounds k)
  left_now k lt = left_grown one me log log_now same modest grows k (rounds k) (carries.phases.left k lt)

  carries_now : (rounds_now : ℕ → ℕ) → Phases apply start own rounds_now new me log_now → Carries apply start own rounds_now new me after
  carries_now rounds_now phases = record {
    stands = ended.stands;
    phases = subst (λ h. Phases apply start own rounds_now new me (after.log h)) (sym same.here) phases;
  }

  -- ---- it waits

  first_later : old.first ≤ new.first
  first_later =
      let early : old.first ≤ barrier_start me.here log_now =
      subst (λ (l : Local). old.first ≤ barrier_start l.here l.log) (grown_there one me log log_now same modest grows)
      (first_before old one.controls (local_of one log) modest carries.stands.agrees grows.rest) in
      omega (arith, early, first_now)

  waited_phases : PolledWaiting old new → Phases apply start own rounds new me log_now
  waited_phases waits =
      let phases = carries.phases in
      let there = sym waits.same_left in
      let cuts_now = own_cuts now rounds in
      record {
        left = subst (λ n. (k : ℕ) → k < n → HasLeft now k (rounds k)) there left_now;
        account = subst (λ n. Account handler own cuts_now n held log_now) there
            (account_recut one me log log_now same modest grows rounds phase phases.left handler own held account_now);
        places = subst (λ n. AreCountedPlaces handler (own n) (phase_start cuts_now n) new.first held log_now) there
            (places_later handler (own phase) (phase_start cuts_now phase) old.first new.first held log_now first_later
            (places_recut one me log log_now same modest grows rounds phase phases.left handler own held old.first places_now));
        none_outside = λ outside. absurd (false≢true (sym outside ∙ waits.inside));
        none_later = subst (λ n. (k to : ℕ) → n < k → own k to ≡ []) there phases.none_later;
      }

  -- ---- it leaves

  module _ (number round : ℕ) (leaves : PolledLeft old new now number round) where
    abbrev rounds_now : ℕ → ℕ
    rounds_now = with_round rounds phase round

    abbrev cuts_now : ℕ → ℕ
    cuts_now = own_cuts now rounds_now

    has_left : HasLeft now phase round
    has_left = subst (λ n. HasLeft now n round) leaves.number_is leaves.has_left

    earlier : (k : ℕ) → k < phase → rounds_now k ≡ rounds k
    earlier k lt = round_elsewhere rounds phase round k (λ e. omega (arith, lt, e))

    same_cuts : (k : ℕ) → k < phase → cuts_now k ≡ cuts k
    same_cuts k lt =
        ap (left_cut now) (earlier k lt)
        ∙ cuts_grown one me log log_now same modest grows rounds phase carries.phases.left k lt

    after_first : old.first < round
    after_first =
        left_first old one.controls (local_of one log) modest carries.stands.agrees grows.rest round
        (subst (λ l. HasLeft l phase round) (sym (grown_there one me log log_now same modest grows)) has_left)

    account_next : Account handler own cuts_now (suc phase) held log_now
    account_next =
        let begin = same_start handler own own cuts cuts_now phase held log_now same_cuts (λ k to le. refl) phase (omega arith) in
        account_left handler own cuts_now phase old.first held now phase round modest_now has_left after_first
        (subst (λ place. AreCountedPlaces handler (own phase) place old.first held log_now) (sym begin) places_now)
        (ap (left_cut now) (round_there rounds phase round))
        (λ to. carries.phases.none_later (suc phase) to (omega arith))
        (account_same handler own own cuts cuts_now phase held log_now same_cuts (λ k to le. refl) account_now)

    left_next : (k : ℕ) → k < suc phase → HasLeft now k (rounds_now k)
    left_next k lt = elim (cases_eq k phase) [
      | inl here ↦ subst (λ n. HasLeft now n (rounds_now n)) (sym here) (subst (HasLeft now phase) (sym (round_there rounds phase round)) has_left)
      | inr ne ↦ (let below : k < phase = omega (arith, lt, ne) in subst (HasLeft now k) (sym (earlier k below)) (left_now k below))
    ]

    none_yet : counts log_now ≤ new.first
    none_yet = omega (arith, first_now, counted_early now (agrees_now.outside leaves.outside))

    left_phases : Phases apply start own rounds_now new me log_now
    left_phases =
        let next : suc phase ≡ new.left = omega (arith, leaves.one_more) in
        record {
          left = subst (λ n. (k : ℕ) → k < n → HasLeft now k (rounds_now k)) next left_next;
          account = subst (λ n. Account handler own cuts_now n held log_now) next account_next;
          places = λ q since put. absurd (omega (arith, since, put, none_yet));
          none_outside = λ outside. none_yet;
          none_later = λ k to lt. carries.phases.none_later k to (omega (arith, lt, next));
        }

module _ {C : Type 0} (apply : Applies C) (start : C → C)
    (keeps : (c : C) (here ranks : ℕ) (l : Letter) → start (apply c here ranks l).0 ≡ start c)
    (own : ℕ → ℕ → List Letter) (rounds : ℕ → ℕ) (old new : BarrierState) (one me : Rank C) (before after : PostState) where
  pub carries_waited : (why : Waiting) → Worked (record one { stopped = false }) me →
      PollEnded apply start old new one me before after (Waits why) →
      Carries apply start own rounds old one before → Carries apply start own rounds new me after
  carries_waited why worked ended carries =
      carries_now apply start keeps own rounds old new one me before after (Waits why) worked ended carries rounds
      (waited_phases apply start keeps own rounds old new one me before after (Waits why) worked ended carries ended.answers.0)

  pub carries_left : (number round : ℕ) → Worked (record one { stopped = false }) me →
      PollEnded apply start old new one me before after (Left number round) →
      Carries apply start own rounds old one before → Carries apply start own (with_round rounds old.left round) new me after
  carries_left number round worked ended carries =
      let leaves : PolledLeft old new (local_of me (after.log one.here)) number round = ended.answers in
      carries_now apply start keeps own rounds old new one me before after (Left number round) worked ended carries (with_round rounds old.left round)
      (left_phases apply start keeps own rounds old new one me before after (Left number round) worked ended carries number round leaves)

-- it left the barrier with the number of its phase, and the rank is outside
pub left_number : {C : Type 0} (apply : Applies C) (start : C → C) (old new : BarrierState) (one me : Rank C) (before after : PostState)
    (number round : ℕ) → PollEnded apply start old new one me before after (Left number round) →
    PolledLeft old new (local_of me (after.log one.here)) number round
left_number apply start old new one me before after number round ended = ended.answers

-- the cuts of the barriers that it had left are where they were
pub cuts_stay : {C : Type 0} (apply : Applies C) (start : C → C) (own : ℕ → ℕ → List Letter) (rounds : ℕ → ℕ) (barrier : BarrierState)
    (one me : Rank C) (before after : PostState) →
    IsSameRank one me → IsPrefix (before.log one.here) (after.log one.here) → Carries apply start own rounds barrier one before →
    (k : ℕ) → k < barrier.left → own_cuts (local_of me (after.log one.here)) rounds k ≡ own_cuts (local_of one (before.log one.here)) rounds k
cuts_stay apply start own rounds barrier one me before after same grows carries =
    cuts_grown one me (before.log one.here) (after.log one.here) same carries.stands.belongs.agrees.modest grows
    rounds barrier.left carries.phases.left
