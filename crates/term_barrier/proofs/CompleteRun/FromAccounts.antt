-- Accounts of all phases and quiet cuts make a complete run.
use Rattle.std.proofs.Common.{◌≡◌, ℕ, ◌<◌, List, take, refl, sym, ap, ◌∙◌, arith, append-nil}
use Rattle.msg_codec.specs.declared.letter.Letter.{Letter}
use Rattle.world_core.specs.declared.entry.Entry.{Entry}
use Rattle.world_core.specs.Log.{letters_taken}
use Rattle.world_core.specs.Pairs.{of_pair, pair_put}
use Rattle.comm_rank.specs.Fold.{Applies, fold_from, handed_from}
use Rattle.comm_rank.proofs.Rank.RanFrom.{pair_of_rank}
use Rattle.term_barrier.specs.Account.{given_in, handler_at}
use Rattle.term_barrier.specs.CompleteRun.{IsCompleteRun, OwnLetters, handed_in}
use Rattle.term_barrier.specs.Cuts.{AreQuietCuts, arrivals_of, phase_part, phase_start}
use Rattle.term_barrier.specs.Passed.{HasPassed}
use Rattle.term_barrier.proofs.CompleteRun.Arrived.{are_arrivals, arrived_after, arrived_before}
use Rattle.term_barrier.proofs.Cuts.Arrivals.{earlier_arrived}
use Rattle.term_barrier.proofs.Cuts.Quiet.{same_part}
use Rattle.term_barrier.proofs.Merge.Joined.{merge_same}

module _ {C : Type 0} (apply : Applies C) (ranks phases : ℕ) (start : ℕ → C) (own : OwnLetters)
    (cuts : ℕ → ℕ → ℕ) (held : ℕ → List Letter) (logs : ℕ → List Entry)
    (passed : (rank : ℕ) → rank < ranks → HasPassed (handler_at apply ranks start rank) (own rank) (cuts rank) phases (held rank) (logs rank))
    (quiet : AreQuietCuts ranks phases logs cuts) where
  -- what the handler gave in the part of a phase is what it gives by the letters of that phase
  given_is_handed : (from phase : ℕ) → from < ranks → phase < phases →
      given_in (handler_at apply ranks start from) (take (phase_start (cuts from) phase) (logs from)) (phase_part (cuts from) phase (logs from))
      ≡ handed_in apply ranks start (arrivals_of logs cuts) from phase
  given_is_handed from phase f p =
      ap (λ ls. handed_from apply from ranks (fold_from apply from ranks (start from) ls) (arrivals_of logs cuts from phase))
      (sym (earlier_arrived from (cuts from) (logs from) phase (λ k lt. (passed from f).account.order k (omega (arith, lt, p)))))

  pub complete_run : IsCompleteRun apply ranks phases start own (arrivals_of logs cuts)
  complete_run = record {
    letters = λ rank phase r p.
        let begin = phase_start (cuts rank) phase in
        let all = (passed rank r).senders in
        are_arrivals ranks rank (letters_taken (phase_part (cuts rank) phase (logs rank)))
        (arrived_after _ rank begin (take (cuts rank phase) (logs rank)) (arrived_before _ rank (cuts rank phase) (logs rank) all));
    merged = λ from to phase f t p.
        let part = phase_part (cuts from) phase (logs from) in
        merge_same refl (ap (of_pair from to) (given_is_handed from phase f p))
        (append-nil (pair_put from to part)
        ∙ same_part ranks phases logs cuts quiet (λ rank k r lt. (passed rank r).account.order k lt) phase from to p f t
        ∙ sym (pair_of_rank from to (letters_taken (phase_part (cuts to) phase (logs to)))))
        ((passed from f).account.past phase p to);
  }
