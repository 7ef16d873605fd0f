-- What ran and what was sent in a poll is that of its turn: puts of control letters change neither.
use Rattle.std.proofs.Common.{◌≡◌, ℕ, ◌-◌, List, [], ◌++◌, length, take, sym, ap, ◌∙◌, subst, append-nil}
use Rattle.std.specs.List.{AllByRecursion}
use Rattle.list_facts.specs.Prefix.{IsPrefix}
use Rattle.list_facts.proofs.Prefix.{prefix_append, prefix_longer}
use Rattle.msg_codec.specs.declared.letter.Letter.{Letter}
use Rattle.world_core.specs.declared.entry.Entry.{Entry}
use Rattle.world_core.specs.Log.{letters_taken}
use Rattle.world_core.specs.Pairs.{arrived, for_rank, of_pair, pair_put}
use Rattle.world_core.proofs.Pairs.Unchanged.{pair_put-append}
use Rattle.comm_rank.specs.declared.turn.Turn.{Turn}
use Rattle.comm_rank.specs.Fold.{Applies}
use Rattle.comm_rank.specs.Rank.{Rank, held_letters}
use Rattle.comm_rank.specs.Turns.{Advanced}
use Rattle.comm_rank.proofs.Running.TookBelow.{taken_append}
use Rattle.term_barrier.specs.CountedPlace.{MovesNone}
use Rattle.term_barrier.specs.Polls.{HasPolled, PutsControl}
use Rattle.term_barrier.proofs.CountedPlace.Polled.{controls_move_none}

-- control letters were put after these letters ran, and those that the rank kept were handed over
pub advanced_controls : {C : Type 0} (apply : Applies C) (old rank : Rank C) (before log after controls : List Entry) (run : List Letter) →
    after ≡ log ++ controls → AllByRecursion PutsControl controls → Advanced apply old rank before log run →
    Advanced apply old (record rank { controls = [] }) before after run
advanced_controls apply old rank before log after controls run log_is each first =
    let here = rank.here in
    let moves : MovesNone here controls = controls_move_none here controls each in
    let arrived_is : arrived here after ≡ arrived here log =
    ap (arrived here) log_is ∙ taken_append here log controls
    ∙ ap (λ ls. arrived here log ++ ls) moves.takes ∙ append-nil (arrived here log) in
    let put_is : (to : ℕ) → pair_put here to after ≡ pair_put here to log = λ to.
    ap (pair_put here to) log_is ∙ pair_put-append here to log controls
    ∙ ap (λ ls. pair_put here to log ++ ls) (moves.puts to) ∙ append-nil (pair_put here to log) in
    record {
      ran = ap (λ ls. take (length ls - length (for_rank here rank.waiting)) ls) arrived_is ∙ first.ran;
      contents = first.contents;
      sent = λ to. ap (λ ls. ls ++ of_pair here to (held_letters rank)) (put_is to) ∙ first.sent to;
      run_count = first.run_count;
      sent_count = first.sent_count;
      told = first.told;
    }

module _ {C : Type 0} (apply : Applies C) (old new : Rank C) (before after : List Entry) (turn : Turn)
    (polled : HasPolled apply old new before after turn) where
  -- the letters that ran in a poll
  abbrev pub run_by_poll : List Letter
  run_by_poll = for_rank old.here (letters_taken polled.turned.taken)

  pub polled_advances : Advanced apply old new before after run_by_poll
  polled_advances =
      subst (λ (me : Rank C). Advanced apply old me before after run_by_poll) (sym polled.handed_over)
      (advanced_controls apply old polled.rank before polled.log after polled.gained.controls run_by_poll
      polled.gained.log polled.gained.each polled.turned.advanced)

  pub polled_grows : IsPrefix before after
  polled_grows =
      let turned = polled.turned.gained in
      subst (IsPrefix before) (sym polled.gained.log) (prefix_longer polled.gained.controls
      (subst (IsPrefix before) (sym turned.log) (prefix_longer polled.turned.placed (prefix_append before polled.turned.taken))))
