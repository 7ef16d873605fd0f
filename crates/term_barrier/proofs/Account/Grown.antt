-- A log gained entries, and no own letter was sent.
use Rattle.std.proofs.Common.{◌≡◌, ℕ, List, ◌++◌, refl, sym, ap, ◌∙◌, append_assoc}
use Rattle.std.proofs.lemmas.List.{append_cancel_left}
use Rattle.std.proofs.lemmas.List.Elements.{filter-append}
use Rattle.msg_codec.specs.declared.letter.Letter.{Letter}
use Rattle.world_core.specs.declared.entry.Entry.{Entry}
use Rattle.world_core.specs.Pairs.{arrived, is_of_pair, of_pair, pair_put, sent}
use Rattle.comm_rank.specs.Fold.{fold_from, handed_from}
use Rattle.comm_rank.proofs.Fold.Appended.{fold-append, handed-append}
use Rattle.comm_rank.proofs.Running.TookBelow.{taken_append}
use Rattle.term_barrier.specs.Account.{IsMadeOf, RankHandler, given_in}
use Rattle.term_barrier.proofs.Cuts.Joined.{sent-append}
use Rattle.term_barrier.proofs.Merge.Joined.{merge_other_more, merge_same}

-- the handler gives by one part of a log, and then by the next
pub given-append : {C : Type 0} (handler : RankHandler C) (before part more : List Entry) →
    given_in handler before (part ++ more) ≡ given_in handler before part ++ given_in handler (before ++ part) more
given-append handler before part more =
    let here = handler.here in
    let from = fold_from handler.apply here handler.ranks handler.start (arrived here before) in
    ap (handed_from handler.apply here handler.ranks from) (taken_append here part more)
    ∙ handed-append handler.apply here handler.ranks from (arrived here part) (arrived here more)
    ∙ ap (λ c. given_in handler before part ++ handed_from handler.apply here handler.ranks c (arrived here more))
    (sym (fold-append handler.apply here handler.ranks handler.start (arrived here before) (arrived here part))
    ∙ ap (fold_from handler.apply here handler.ranks handler.start) (sym (taken_append here before part)))

-- What was sent as a log gained entries, with what is held before and afterwards, is just what the handler gave by them.
pub record SentGiven {C : Type 0} (handler : RankHandler C) (held held_now : List Letter) (log more : List Entry) : Type 0 where
  pub sent : (to : ℕ) → sent handler.here to (log ++ more) held_now ≡ sent handler.here to log held ++ of_pair handler.here to (given_in handler log more)

module _ {C : Type 0} (handler : RankHandler C) (held held_now : List Letter) (before part more : List Entry)
    (gave : SentGiven handler held held_now (before ++ part) more) where
  -- what the handler gave for a rank, in this part of the log and by what it gained
  abbrev given : ℕ → List Letter
  given to = of_pair handler.here to (given_in handler before part)

  abbrev given_more : ℕ → List Letter
  given_more to = of_pair handler.here to (given_in handler (before ++ part) more)

  sent_grown : (to : ℕ) → sent handler.here to (part ++ more) held_now ≡ sent handler.here to part held ++ given_more to
  sent_grown to =
      let here = handler.here in
      let put = pair_put here to before in
      append_cancel_left put (sent here to (part ++ more) held_now) (sent here to part held ++ given_more to)
      (sym (sent-append here to before (part ++ more) held_now)
      ∙ ap (λ es. sent here to es held_now) (sym (append_assoc before part more))
      ∙ gave.sent to
      ∙ ap (λ ls. ls ++ given_more to) (sent-append here to before part held)
      ∙ append_assoc put (sent here to part held) (given_more to))

  given_grown : (to : ℕ) → of_pair handler.here to (given_in handler before (part ++ more)) ≡ given to ++ given_more to
  given_grown to =
      ap (of_pair handler.here to) (given-append handler before part more)
      ∙ filter-append (is_of_pair handler.here to) (given_in handler before part) (given_in handler (before ++ part) more)

  -- the same own letters make up what was sent
  pub made_grown : (own : ℕ → List Letter) → IsMadeOf handler own before part held → IsMadeOf handler own before (part ++ more) held_now
  made_grown own made to = merge_same refl (sym (given_grown to)) (sym (sent_grown to)) (merge_other_more (given_more to) (made to))

  -- what was sent stays just what the handler gave
  pub given_alone_grown : (to : ℕ) → sent handler.here to part held ≡ of_pair handler.here to (given_in handler before part) →
      sent handler.here to (part ++ more) held_now ≡ of_pair handler.here to (given_in handler before (part ++ more))
  given_alone_grown to same = sent_grown to ∙ ap (λ ls. ls ++ given_more to) same ∙ sym (given_grown to)
