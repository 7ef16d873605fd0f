-- Before each Count that polls put, the rank had put all that it had sent as it entered, and all that its handler gave.
use Rattle.std.proofs.Common.{◌≡◌, ℕ, ◌≤◌, ◌<◌, List, [], ◌++◌, sym, ap, ◌∙◌, subst, append-nil, append_assoc, inl, inr, arith}
use Rattle.std.specs.List.{AllByRecursion}
use Rattle.std.proofs.lemmas.Bool.{cases_lt}
use Rattle.list_facts.proofs.Elements.{all_first}
use Rattle.msg_codec.specs.declared.letter.Letter.{Letter}
use Rattle.world_core.specs.declared.entry.Entry.{Entry}
use Rattle.world_core.specs.Counts.{before_count, counts}
use Rattle.world_core.specs.Pairs.{arrived, of_pair, pair_put, sent}
use Rattle.world_core.proofs.Counts.BeforeCount.{before_stands, counts-append}
use Rattle.world_core.proofs.Pairs.Unchanged.{pair_put-append}
use Rattle.comm_rank.specs.declared.turn.Turn.{Turn}
use Rattle.comm_rank.specs.Fold.{Applies}
use Rattle.comm_rank.specs.Rank.{IsSameRank, Rank, handed, held_letters, sent_to}
use Rattle.comm_rank.specs.Turns.{Advanced}
use Rattle.comm_rank.proofs.Agrees.Arrived.{ran_all}
use Rattle.comm_rank.proofs.Running.TookBelow.{advanced_more, taken_append}
use Rattle.term_barrier.specs.CountedPlace.{MovesNone}
use Rattle.term_barrier.specs.Polls.{HasPolled, PutAllBefore, PutAllBeforeCounts, PutsControl}
use Rattle.term_barrier.proofs.CountedPlace.Polled.{before_among, controls_move_none, turn_counts}
use Rattle.term_barrier.proofs.Waited.Polled.{polled_grows, run_by_poll}

-- A rank entered at one log with no letter that waits, and one more poll took it from the next log to the last.
module _ {C : Type 0} (apply : Applies C) (one me now : Rank C) (before mid after : List Entry) (turn : Turn) (run : List Letter)
    (none_waited : one.waiting ≡ []) (same : IsSameRank one me) (same_now : IsSameRank me now)
    (advanced : Advanced apply one me before mid run) (polled : HasPolled apply me now mid after turn) where
  -- what ran until the turn of this poll ended
  abbrev run_till : List Letter
  run_till = run ++ run_by_poll apply me now mid after turn polled

  here_is : polled.rank.here ≡ one.here
  here_is = sym (ap (λ (rank : Rank C). rank.here) polled.handed_over) ∙ same_now.here ∙ same.here

  advanced_till : Advanced apply one polled.rank before polled.log run_till
  advanced_till =
      advanced_more apply one me polled.rank before mid polled.log same run (run_by_poll apply me now mid after turn polled)
      advanced polled.turned.advanced

  came_till : arrived one.here polled.log ≡ arrived one.here before ++ run_till
  came_till =
      ap (λ here. arrived here polled.log) (sym here_is) ∙ sym (ran_all polled.rank polled.log polled.turned.nothing_waits)
      ∙ advanced_till.ran ∙ ap (λ ls. ls ++ run_till) (ran_all one before none_waited)

  put_till : held_letters polled.rank ≡ [] → (to : ℕ) →
      pair_put one.here to polled.log ≡ sent_to one before to ++ of_pair one.here to (handed apply one run_till)
  put_till none to =
      sym (append-nil (pair_put one.here to polled.log))
      ∙ ap (λ ls. pair_put one.here to polled.log ++ of_pair one.here to ls) (sym none)
      ∙ ap (λ here. sent here to polled.log (held_letters polled.rank)) (sym here_is)
      ∙ advanced_till.sent to

  till_counts : counts polled.log ≡ counts mid
  till_counts =
      let turned = polled.turned in
      let gains = turned.taken ++ turned.placed in
      let log_is : polled.log ≡ mid ++ gains = turned.gained.log ∙ append_assoc mid turned.taken turned.placed in
      omega (arith, ap counts log_is, counts-append mid gains, turn_counts apply me polled.rank mid polled.log turn turned)

  -- a Count that this poll put
  counted_now : (q : ℕ) → counts mid ≤ q → q < counts after → PutAllBefore apply one before after q
  counted_now q least put =
      let here = one.here in
      let log = polled.log in
      let controls = polled.gained.controls in
      let among = before_among q log controls (omega (arith, least, till_counts)) in
      let first = among.0 in
      let each : AllByRecursion PutsControl (first ++ among.1) = subst (AllByRecursion PutsControl) (sym among.2) polled.gained.each in
      let moves : MovesNone here first = controls_move_none here first (all_first PutsControl first among.1 each) in
      let place : before_count q after ≡ log ++ first = ap (before_count q) polled.gained.log ∙ among.3 in
      let held : held_letters now ≡ [] =
      polled.gained.none_held (omega (arith, least, put, till_counts, ap counts polled.gained.log, counts-append log controls)) in
      let none : held_letters polled.rank ≡ [] = sym (ap (λ (rank : Rank C). held_letters rank) polled.handed_over) ∙ held in
      record {
        ran = run_till;
        came =
            ap (arrived here) place ∙ taken_append here log first
            ∙ ap (λ ls. arrived here log ++ ls) moves.takes ∙ append-nil (arrived here log) ∙ came_till;
        all_put = λ to.
            ap (pair_put here to) place ∙ pair_put-append here to log first
            ∙ ap (λ ls. pair_put here to log ++ ls) (moves.puts to) ∙ append-nil (pair_put here to log) ∙ put_till none to;
      }

  -- a Count that was put before
  counted_before : (q : ℕ) → q < counts mid → PutAllBefore apply one before mid q → PutAllBefore apply one before after q
  counted_before q was counted =
      let grown = polled_grows apply me now mid after turn polled in
      let place : before_count q after ≡ before_count q mid = ap (before_count q) (sym grown.joined) ∙ before_stands q mid grown.rest was in
      record {
        ran = counted.ran;
        came = ap (arrived one.here) place ∙ counted.came;
        all_put = λ to. ap (pair_put one.here to) place ∙ counted.all_put to;
      }

  pub counted_more : PutAllBeforeCounts apply one before mid → PutAllBeforeCounts apply one before after
  counted_more counted q since put = elim (cases_lt q (counts mid)) [
    | inl was ↦ counted_before q was (counted q since was)
    | inr least ↦ counted_now q least put
  ]
