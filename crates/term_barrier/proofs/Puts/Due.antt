-- The Count that an idle rank puts, and the Total that rank 0 puts of a round whose Counts it was handed, break no rule.
use Rattle.std.proofs.Common.{◌≡◌, ◌≢◌, ◌⊎◌, ℕ, ◌+◌, ◌<◌, ◌≤◌, ◌&&◌, nat_lt, true, cond, None, is_some, inl, inr, List, [], ◌∷◌, length, sym, ap, ◌∙◌, subst, arith}
use Rattle.std.proofs.lemmas.Bool.Decides.{nat_tests}
use Rattle.msg_codec.specs.Control.{ControlFits, IsCountFrom, IsTotalTo, letter_of_control, round_of, run_of, sent_of}
use Rattle.msg_codec.specs.declared.control.Control.TheVariants.{Count, Total}
use Rattle.msg_codec.specs.declared.letter.Letter.{Letter}
use Rattle.msg_codec.proofs.Controls.Letters.{again, count_is, total_is}
use Rattle.world_core.specs.declared.entry.Entry.{Entry}
use Rattle.world_core.specs.ControlRules.{run_taken, sent_taken}
use Rattle.world_core.specs.Counts.{count_taken, counts, totals}
use Rattle.world_core.specs.Local.{to_forward}
use Rattle.world_core.specs.Log.{letters_taken}
use Rattle.world_core.specs.Modest.{IsModest}
use Rattle.world_core.specs.Pairs.{of_pair, own_count, run_count, sent_number}
use Rattle.world_core.specs.Post.{PostState, local_at}
use Rattle.world_core.specs.Rounds.{Sums, rounds_known}
use Rattle.world_core.specs.Rules.{first_broken}
use Rattle.world_core.specs.Rules.Deed.{Puts}
use Rattle.world_core.proofs.Pairs.Numbers.{run_number-is, sent_number-nil}
use Rattle.comm_rank.specs.Fold.{Applies}
use Rattle.comm_rank.specs.Rank.{IsIdle, Rank, held_letters, local_of}
use Rattle.comm_rank.proofs.Agrees.Arrived.{ran_all}
use Rattle.term_barrier.specs.Barriers.{BarrierAgrees, BarrierState, InRange, IsNextTotal, IsTotalDue}
use Rattle.term_barrier.specs.Polls.{Stands}
use Rattle.term_barrier.proofs.Barriers.Rounds.{known_is, sums_are, taken}
use Rattle.term_barrier.proofs.Puts.HonestCount.{honest_count}
use Rattle.term_barrier.proofs.Puts.HonestTotal.{honest_total}

-- ---- the letters

count_letter : (rank q s r : ℕ) → ControlFits (Count rank q s r) → IsCountFrom rank q s r (letter_of_control (Count rank q s r))
count_letter rank q s r fits = (count_is (letter_of_control (Count rank q s r)) rank q s r).0 (again (Count rank q s r) fits)

total_letter : (to q s r : ℕ) → ControlFits (Total to q s r) → IsTotalTo to q s r (letter_of_control (Total to q s r))
total_letter to q s r fits = (total_is (letter_of_control (Total to q s r)) to q s r).0 (again (Total to q s r) fits)

-- no Total of the present round was put to the rank that is next, or to rank 0
none_put : (over next to : ℕ) → (to ≡ 0) ⊎ (to ≡ next) → over + cond (nat_lt 0 to && nat_lt to next) 1 0 ≡ over
none_put over next to (inl first) = grind (arith, nat_tests)
none_put over next to (inr is) = grind (arith, nat_tests)

-- ---- a barrier that was handed all

module _ {C : Type 0} (apply : Applies C) (start : C → C) (barrier : BarrierState) (me : Rank C) (post : PostState)
    (stands : Stands apply start barrier me post) (range : InRange barrier) (all_handed : me.controls ≡ []) where
  abbrev log : List Entry
  log = post.log me.here

  one : BarrierAgrees barrier [] (local_of me log)
  one = subst (λ kept. BarrierAgrees barrier kept (local_of me log)) all_handed stands.agrees

  modest : IsModest (local_of me log)
  modest = stands.belongs.agrees.modest

  same_ranks : barrier.layout.ranks ≡ me.layout.ranks
  same_ranks = ap (λ layout. layout.ranks) one.layout

  within : me.here < me.layout.ranks
  within = omega (arith, range.within, one.here, same_ranks)

  same_local : local_at post me.here ≡ local_of me log
  same_local = (let layout = stands.belongs.layout in let scheme = stands.belongs.scheme in cc)

  -- ---- its rank is idle

  own_letters : held_letters me ≡ [] → me.sent_count ≡ own_count me.here log
  own_letters none = omega (arith, stands.belongs.agrees.sent_count, ap (sent_number me.here) none, sent_number-nil me.here)

  run_letters : me.run_count ≡ run_count me.here log
  run_letters =
      stands.belongs.agrees.run_count
      ∙ ap length (ran_all me log stands.belongs.agrees.nothing_waits)
      ∙ sym (run_number-is me.here (letters_taken log))

  none_to_forward : held_letters me ≡ [] → (from to : ℕ) → from ≢ me.here → to_forward (local_of me log) from to ≡ []
  none_to_forward none from to other = sym (stands.belongs.agrees.forwards.held from to other) ∙ ap (of_pair from to) none

  pub count_due : IsIdle me → barrier.counted ≤ barrier.known → ControlFits (Count me.here barrier.counted me.sent_count me.run_count) →
      first_broken (local_at post me.here) (Puts 0 (letter_of_control (Count me.here barrier.counted me.sent_count me.run_count) ∷ [])) ≡ None
  count_due idle all_known fits =
      let l : Letter = letter_of_control (Count me.here barrier.counted me.sent_count me.run_count) in
      let is = count_letter me.here barrier.counted me.sent_count me.run_count fits in
      let counted : barrier.counted ≡ counts log = one.its_rounds.counts_are in
      let known : barrier.known ≡ rounds_known me.here log = known_is barrier (local_of me log) modest one in
      let rounds : counts log ≡ rounds_known me.here log = omega (arith, counted, known, all_known, range.counted_first) in
      ap (λ local. first_broken local (Puts 0 (l ∷ []))) same_local
      ∙ honest_count (local_of me log) l within is.count is.from is.to (is.round ∙ counted)
      (is.sent ∙ own_letters idle.0) (is.run ∙ run_letters) rounds (none_to_forward idle.0)

  -- ---- its rank is rank 0

  to_rank : (to : ℕ) → me.here ≡ 0 → IsNextTotal barrier to → to < barrier.layout.ranks
  to_rank to first next = elim next [ inl next ↦ next.1 | inr last ↦ omega (arith, last.0, first, within, same_ranks) ]

  next_total : (to : ℕ) → to < barrier.layout.ranks → IsNextTotal barrier to → barrier.over ≡ totals to log
  next_total to inside next =
      let due : (to ≡ 0) ⊎ (to ≡ barrier.next) = elim next [ inl next ↦ inr next.0 | inr last ↦ inl last.0 ] in
      sym (none_put barrier.over barrier.next to due) ∙ one.its_rounds.totals_are to inside

  pub total_due : (to : ℕ) (sums : Sums) → me.here ≡ 0 → IsTotalDue barrier to sums → ControlFits (Total to barrier.over sums.sent sums.run) →
      first_broken (local_at post 0) (Puts to (letter_of_control (Total to barrier.over sums.sent sums.run) ∷ [])) ≡ None
  total_due to sums first due fits =
      let l : Letter = letter_of_control (Total to barrier.over sums.sent sums.run) in
      let is = total_letter to barrier.over sums.sent sums.run fits in
      let inside : to < barrier.layout.ranks = to_rank to first due.next in
      let every : (j : ℕ) → j < me.layout.ranks → is_some (count_taken j (round_of l) log) ≡ true =
      λ j lt.
      ap (λ q. is_some (count_taken j q log)) is.round
      ∙ taken barrier (local_of me log) modest one j lt barrier.over (due.every j (omega (arith, lt, same_ranks))) in
      let all = sums_are barrier (local_of me log) modest one range due.every in
      let sent : sent_of l ≡ sent_taken (local_of me log) (round_of l) =
      is.sent ∙ ap (λ (all : Sums). all.sent) due.sums_are ∙ all.0 ∙ ap (sent_taken (local_of me log)) (sym is.round) in
      let run : run_of l ≡ run_taken (local_of me log) (round_of l) =
      is.run ∙ ap (λ (all : Sums). all.run) due.sums_are ∙ all.1 ∙ ap (run_taken (local_of me log)) (sym is.round) in
      ap (λ here. first_broken (local_at post here) (Puts to (l ∷ []))) (sym first)
      ∙ ap (λ local. first_broken local (Puts to (l ∷ []))) same_local
      ∙ honest_total (local_of me log) to l first (omega (arith, inside, same_ranks)) is.total is.from is.to
      (is.round ∙ next_total to inside due.next) every sent run
