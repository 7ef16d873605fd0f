-- A barrier that agrees with a modest log, and was handed all control letters, knows the rounds of the log.
use Rattle.std.proofs.Common.{◌≡◌, ℕ, suc, pred, ◌+◌, ◌-◌, ◌<◌, ◌≤◌, Bool, true, false, cond, nat_eq, eqb-true, eq-eqb, is_some, None, List, [], ◌++◌, get_or, length, length-append, map, refl, sym, ap, ◌∙◌, subst, append-nil, inl, inr, arith}
use Rattle.std.specs.List.{filter}
use Rattle.std.proofs.Math.ListN.{get_or-append}
use Rattle.std.proofs.lemmas.Bool.{cases_lt, false≢true}
use Rattle.std.proofs.lemmas.List.{length-map, map-append}
use Rattle.std.proofs.lemmas.List.Elements.{filter-append}
use Rattle.std.proofs.lemmas.Option.{slice_get-get_or, slice_get_past}
use Rattle.list_facts.specs.Sums.{sum_upto}
use Rattle.list_facts.proofs.Sums.{sum_upto-same}
use Rattle.msg_codec.specs.declared.letter.Letter.{Letter}
use Rattle.world_core.specs.declared.entry.Entry.{Entry}
use Rattle.world_core.specs.ControlRules.{run_taken, sent_taken}
use Rattle.world_core.specs.Counts.{count_taken, is_count_of, is_total_to}
use Rattle.world_core.specs.Local.{Local}
use Rattle.world_core.specs.Modest.{IsModest}
use Rattle.world_core.specs.Rounds.{Sums, barrier_start, ended_below, ends, first_round, rounds_known, sums_in, sums_told}
use Rattle.world_core.proofs.Rounds.BarrierStart.{first_within}
use Rattle.term_barrier.specs.declared.heard.Heard.{Heard}
use Rattle.term_barrier.specs.Barriers.{BarrierAgrees, BarrierState, HasEveryCount, InRange, IsHeard, control_letters, counts_heard, heard_of, no_sums, round_sums, sums_heard, sums_heard_at, sums_of, totals_heard}
use Rattle.term_barrier.specs.Left.{HasLeft, barriers_left, gained}
use Rattle.term_barrier.proofs.Barriers.Knows.{count_at, known_at, no_letter, sums_at_place, told_at}
use Rattle.term_barrier.proofs.Barriers.Room.{few_heard}
use Rattle.term_barrier.proofs.Left.Grown.{more_known, sums_stay}
use Rattle.term_barrier.proofs.Left.SameSums.{ended_below-same, first_round-same}
use Rattle.term_barrier.proofs.Left.Since.{ends_later, first_grows, one_more}

-- a round after which a barrier begins ended the one before
ended_there : (sums : ℕ → Sums) (q : ℕ) → first_round sums (suc q) ≡ suc q → ends sums q ≡ true
unfolding first_round
ended_there sums q begins = by_end (ends sums q) refl begins
  where
    by_end : (b : Bool) → ends sums q ≡ b → cond b (suc q) (first_round sums q) ≡ suc q → ends sums q ≡ true
    by_end true e h = e
    by_end false e h = absurd (omega (arith, h, first_within sums q))

-- what is kept of the Count of a round, where that is the last which was heard or the one before
sums_kept : (one : Heard) (sums : List Sums) (q : ℕ) → IsHeard one sums → q < one.rounds → one.rounds ≤ q + 2 →
    sums_heard_at q one ≡ get_or sums q no_sums
sums_kept one sums q heard after few = by (nat_eq one.rounds (q + 1)) refl
  where
    by : (b : Bool) → nat_eq one.rounds (q + 1) ≡ b → cond b one.last one.before ≡ get_or sums q no_sums
    by true same =
        let long : one.rounds ≡ q + 1 = eqb-true _ _ same in
        let place : length sums - 1 ≡ q = omega (arith, heard.rounds_are, long) in
        heard.last_is (omega (arith, heard.rounds_are, long)) ∙ ap (λ k. get_or sums k no_sums) place
    by false other =
        let long : one.rounds ≡ q + 2 = elim (cases_lt (q + 1) one.rounds) [
          | inl less ↦ omega (arith, few, less)
          | inr within ↦ absurd (false≢true (sym other ∙ eq-eqb one.rounds (q + 1) (omega (arith, after, within))))
        ] in
        let place : length sums - 2 ≡ q = omega (arith, heard.rounds_are, long) in
        heard.before_is (omega (arith, heard.rounds_are, long)) ∙ ap (λ k. get_or sums k no_sums) place

start_at : (me : Local) (q : ℕ) → rounds_known me.here me.log ≡ q → barrier_start me.here me.log ≡ first_round (sums_told me.here me.log) q
unfolding barrier_start
start_at me q known = ap (first_round (sums_told me.here me.log)) known

module _ (barrier : BarrierState) (me : Local) (modest : IsModest me) (agrees : BarrierAgrees barrier [] me) where
  all_handed : agrees.handed ≡ control_letters me.log
  all_handed = sym (append-nil agrees.handed) ∙ agrees.in_order

  told : (q : ℕ) → sums_heard barrier.here agrees.handed q ≡ sums_told me.here me.log q
  told q = rw (all_handed, agrees.here) (told_at me modest q)

  pub known_is : barrier.known ≡ rounds_known me.here me.log
  known_is =
      agrees.its_rounds.known_are
      ∙ rw (all_handed, agrees.here) (length-map (filter (is_total_to me.here) (control_letters me.log)) sums_of)
      ∙ sym (known_at me modest)

  pub first_is : barrier.first ≡ barrier_start me.here me.log
  unfolding barrier_start
  first_is =
      agrees.its_rounds.first_is
      ∙ first_round-same (sums_heard barrier.here agrees.handed) (sums_told me.here me.log) barrier.known (λ q lt. told q)
      ∙ ap (first_round (sums_told me.here me.log)) known_is

  pub left_is : barrier.left ≡ barriers_left me
  left_is =
      agrees.its_rounds.left_are
      ∙ ended_below-same (sums_heard barrier.here agrees.handed) (sums_told me.here me.log) barrier.known (λ q lt. told q)
      ∙ ap (ended_below (sums_told me.here me.log)) known_is

  pub last_is : 0 < barrier.known → barrier.last ≡ sums_told me.here me.log (pred barrier.known)
  last_is some = agrees.its_rounds.last_is some ∙ told (pred barrier.known)

  -- ---- the Counts that the log took

  pub heard_is : (from : ℕ) → from < me.layout.ranks → IsHeard (heard_of barrier from) (counts_heard from (control_letters me.log))
  heard_is from within =
      subst (λ ls. IsHeard (heard_of barrier from) (counts_heard from ls)) all_handed
      (agrees.its_rounds.heard_are from (omega (arith, within, ap (λ layout. layout.ranks) agrees.layout)))

  module _ (from : ℕ) (within : from < me.layout.ranks) where
    abbrev letters : List Letter
    letters = filter (is_count_of from) (control_letters me.log)

    rounds_heard : (heard_of barrier from).rounds ≡ length letters
    rounds_heard = (heard_is from within).rounds_are ∙ length-map letters sums_of

    pub not_taken : (q : ℕ) → (heard_of barrier from).rounds ≤ q → count_taken from q me.log ≡ None
    not_taken q past = count_at me modest from q ∙ slice_get_past letters q (omega (arith, past, rounds_heard))

    pub taken : (q : ℕ) → q < (heard_of barrier from).rounds → is_some (count_taken from q me.log) ≡ true
    taken q before =
        ap is_some (count_at me modest from q ∙ slice_get-get_or letters q no_letter (omega (arith, before, rounds_heard)))

    sums_of_count : InRange barrier → HasEveryCount barrier →
        sums_heard_at barrier.over (heard_of barrier from) ≡ sums_in (count_taken from barrier.over me.log)
    sums_of_count range every =
        let rank : from < barrier.layout.ranks = omega (arith, within, ap (λ layout. layout.ranks) agrees.layout) in
        let few : (heard_of barrier from).rounds ≤ barrier.over + 2 = omega (arith, few_heard barrier [] me range modest agrees from rank) in
        sums_kept (heard_of barrier from) (counts_heard from (control_letters me.log)) barrier.over
        (heard_is from within) (every from rank) few
        ∙ sym (ap sums_in (count_at me modest from barrier.over) ∙ sums_at_place letters barrier.over)

  -- the sums of the round that comes after those that are over, whose Counts it has
  pub sums_are : InRange barrier → HasEveryCount barrier →
      ((round_sums barrier).sent ≡ sent_taken me barrier.over) × ((round_sums barrier).run ≡ run_taken me barrier.over)
  sums_are range every = (
    ap (sum_upto (λ from. (sums_heard_at barrier.over (heard_of barrier from)).sent)) ranks
        ∙ sum_upto-same _ _ me.layout.ranks (λ from within. ap (λ sums. sums.sent) (sums_of_count from within range every)),
    ap (sum_upto (λ from. (sums_heard_at barrier.over (heard_of barrier from)).run)) ranks
        ∙ sum_upto-same _ _ me.layout.ranks (λ from within. ap (λ sums. sums.run) (sums_of_count from within range every)),
  )
    where
      ranks : barrier.layout.ranks ≡ me.layout.ranks
      ranks = ap (λ layout. layout.ranks) agrees.layout

  -- where the next round that it is told of begins a barrier, the rank just left one
  pub just_left : (round : ℕ) → barrier.known ≡ suc round → barrier.first ≡ barrier.known → HasLeft me (pred barrier.left) round
  just_left round known first =
      let sums = sums_told me.here me.log in
      let rounds : rounds_known me.here me.log ≡ suc round = sym known_is ∙ known in
      let begins : first_round sums (suc round) ≡ suc round = sym (start_at me (suc round) rounds) ∙ sym first_is ∙ first ∙ known in
      let ended : ends sums round ≡ true = ended_there sums round begins in
      let number : barrier.left ≡ suc (ended_below sums round) = left_is ∙ ap (ended_below sums) rounds ∙ one_more sums round ended in
      record { known = omega (arith, rounds); ended = ended; number = sym (ap pred number) }

-- ---- a barrier whose rank keeps letters

module _ (barrier : BarrierState) (kept : List Letter) (me : Local) (modest : IsModest me) (agrees : BarrierAgrees barrier kept me) where
  both_heard : totals_heard me.here (control_letters me.log) ≡ totals_heard barrier.here agrees.handed ++ totals_heard barrier.here kept
  both_heard =
      rw (sym agrees.here, sym agrees.in_order)
      (ap (map sums_of) (filter-append (is_total_to barrier.here) agrees.handed kept)
      ∙ map-append sums_of (filter (is_total_to barrier.here) agrees.handed) (filter (is_total_to barrier.here) kept))

  known_within : barrier.known ≤ rounds_known me.here me.log
  known_within =
      let all = length-map (filter (is_total_to me.here) (control_letters me.log)) sums_of in
      omega (
        arith,
        agrees.its_rounds.known_are,
        known_at me modest,
        all,
        ap length both_heard,
        length-append (totals_heard barrier.here agrees.handed) (totals_heard barrier.here kept),
      )

  told_first : (q : ℕ) → q < barrier.known → sums_heard barrier.here agrees.handed q ≡ sums_told me.here me.log q
  told_first q lt =
      sym (get_or-append (totals_heard barrier.here agrees.handed) (totals_heard barrier.here kept) no_sums q (omega (arith, lt, agrees.its_rounds.known_are)))
      ∙ ap (λ xs. get_or xs q no_sums) (sym both_heard) ∙ told_at me modest q

  -- ---- the log gains more

  module _ (more : List Entry) where
    abbrev now : ℕ → Sums
    now = sums_told me.here (me.log ++ more)

    told_now : (q : ℕ) → q < barrier.known → sums_heard barrier.here agrees.handed q ≡ now q
    told_now q lt = told_first q lt ∙ sums_stay me more q (omega (arith, lt, known_within))

    first_now : barrier.first ≡ first_round now barrier.known
    first_now = agrees.its_rounds.first_is ∙ first_round-same (sums_heard barrier.here agrees.handed) now barrier.known told_now

    -- the log is in no earlier barrier
    pub first_before : barrier.first ≤ barrier_start me.here (me.log ++ more)
    unfolding barrier_start
    first_before =
        let later = rounds_known me.here (me.log ++ more) in
        omega (arith, first_now, first_grows now barrier.known later (omega (arith, known_within, more_known me more)))

    -- where its rank then left the next barrier, it did so at a round after the first of that barrier
    pub left_first : (round : ℕ) → HasLeft (gained me more) barrier.left round → barrier.first < round
    left_first round left =
        let heard = sums_heard barrier.here agrees.handed in
        let number : barrier.left ≡ ended_below now barrier.known = agrees.its_rounds.left_are ∙ ended_below-same heard now barrier.known told_now in
        omega (arith, first_now, ends_later now barrier.known round left.ended (left.number ∙ number))
