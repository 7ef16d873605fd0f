-- A turn sends what the handler gave, and no own letters.
use Rattle.std.proofs.Common.{◌≡◌, ℕ, List, ◌++◌, sym, ap, ◌∙◌, subst, append_assoc}
use Rattle.std.proofs.lemmas.List.{append_cancel_left}
use Rattle.msg_codec.specs.declared.letter.Letter.{Letter}
use Rattle.world_core.specs.declared.entry.Entry.{Entry}
use Rattle.world_core.specs.Log.{letters_taken}
use Rattle.world_core.specs.Pairs.{arrived, for_rank, of_pair, sent}
use Rattle.comm_rank.specs.declared.turn.Turn.{Turn}
use Rattle.comm_rank.specs.Agrees.{Agrees}
use Rattle.comm_rank.specs.Fold.{Applies, fold_from, handed_from}
use Rattle.comm_rank.specs.Rank.{IsSameRank, Rank, held_letters, ran_at, sent_to}
use Rattle.comm_rank.specs.Turns.{Turned}
use Rattle.comm_rank.proofs.Agrees.Arrived.{ran_all}
use Rattle.comm_rank.proofs.Fold.Appended.{fold-append, start_fold}
use Rattle.comm_rank.proofs.Running.TookBelow.{taken_append}
use Rattle.term_barrier.specs.Account.{Account, IsUpToDate, handler_of}
use Rattle.term_barrier.specs.CountedPlace.{IsCountedPlace}
use Rattle.term_barrier.proofs.Account.Grown.{SentGiven}
use Rattle.term_barrier.proofs.Account.Kept.{account_grown}
use Rattle.term_barrier.proofs.CountedPlace.Kept.{counted_grown}

pub agrees_up_to_date : {C : Type 0} (apply : Applies C) (start : C → C) (me : Rank C) (log : List Entry) →
    Agrees apply start me log → IsUpToDate apply start me log
agrees_up_to_date apply start me log agrees = record {
  nothing_waits = agrees.nothing_waits;
  contents = agrees.contents
      ∙ ap (fold_from apply me.here me.layout.ranks (start me.contents)) (ran_all me log agrees.nothing_waits);
}

module _ {C : Type 0} (apply : Applies C) (start : C → C)
    (keeps : (c : C) (here ranks : ℕ) (l : Letter) → start (apply c here ranks l).0 ≡ start c)
    (old new : Rank C) (before after : List Entry) (turn : Turn)
    (up : IsUpToDate apply start old before) (same : IsSameRank old new) (turned : Turned apply old new before after turn) where
  -- what the log gained, and what ran
  abbrev more : List Entry
  more = turned.taken ++ turned.placed

  abbrev run : List Letter
  run = for_rank old.here (letters_taken turned.taken)

  log_is : before ++ more ≡ after
  log_is = sym (turned.gained.log ∙ append_assoc before turned.taken turned.placed)

  ran_old : ran_at old before ≡ arrived old.here before
  ran_old = ran_all old before up.nothing_waits

  ran_new : arrived old.here after ≡ arrived old.here before ++ run
  ran_new =
      ap (λ h. arrived h after) (sym same.here) ∙ sym (ran_all new after turned.nothing_waits)
      ∙ turned.advanced.ran ∙ ap (λ ls. ls ++ run) ran_old

  run_is : arrived old.here more ≡ run
  run_is =
      append_cancel_left (arrived old.here before) (arrived old.here more) run
      (sym (taken_append old.here before more) ∙ ap (arrived old.here) log_is ∙ ran_new)

  gave_turn : SentGiven (handler_of apply start old) (held_letters old) (held_letters new) before more
  gave_turn = record {
    sent = λ to.
        let here = old.here in
        let gives = handed_from apply here old.layout.ranks in
        let from = fold_from apply here old.layout.ranks (start old.contents) (arrived here before) in
        ap (λ es. sent here to es (held_letters new)) log_is
        ∙ ap (λ h. sent h to after (held_letters new)) (sym same.here)
        ∙ turned.advanced.sent to
        ∙ ap (λ c. sent_to old before to ++ of_pair here to (gives c run)) up.contents
        ∙ ap (λ ls. sent_to old before to ++ of_pair here to (gives from ls)) (sym run_is);
  }

  same_start : start new.contents ≡ start old.contents
  same_start = ap start turned.advanced.contents ∙ start_fold apply start keeps old.here old.layout.ranks old.contents run

  same_handler : handler_of apply start old ≡ handler_of apply start new
  same_handler =
      let start_is : start new.contents ≡ start old.contents = same_start in
      let ranks_are : new.layout.ranks ≡ old.layout.ranks = ap (λ layout. layout.ranks) same.layout in
      let here_is : new.here ≡ old.here = same.here in
      cc

  pub up_to_date_turn : IsUpToDate apply start new after
  up_to_date_turn = record {
    nothing_waits = turned.nothing_waits;
    contents =
        turned.advanced.contents
        ∙ ap (λ c. fold_from apply old.here old.layout.ranks c run) up.contents
        ∙ sym (fold-append apply old.here old.layout.ranks (start old.contents) (arrived old.here before) run)
        ∙ ap (fold_from apply old.here old.layout.ranks (start old.contents)) (sym ran_new)
        ∙ ap (λ handler. fold_from apply handler.here handler.ranks handler.start (arrived handler.here after)) same_handler;
  }

  pub account_turn : (own : ℕ → ℕ → List Letter) (cut : ℕ → ℕ) (phase : ℕ) → Account (handler_of apply start old) own cut phase (held_letters old) before →
      Account (handler_of apply start new) own cut phase (held_letters new) after
  account_turn own cut phase account =
      subst (λ handler. Account handler own cut phase (held_letters new) after) same_handler
      (subst (Account (handler_of apply start old) own cut phase (held_letters new)) log_is
      (account_grown (handler_of apply start old) own cut phase (held_letters old) (held_letters new) before more gave_turn account))

  pub counted_turn : (own : ℕ → List Letter) (begin place : ℕ) → IsCountedPlace (handler_of apply start old) own begin place (held_letters old) before →
      IsCountedPlace (handler_of apply start new) own begin place (held_letters new) after
  counted_turn own begin place counted =
      subst (λ handler. IsCountedPlace handler own begin place (held_letters new) after) same_handler
      (subst (IsCountedPlace (handler_of apply start old) own begin place (held_letters new)) log_is
      (counted_grown (handler_of apply start old) own begin place (held_letters old) (held_letters new) before more gave_turn counted))
