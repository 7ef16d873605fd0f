-- Nothing arrives after the last cut, where no own letter was sent after it and each letter that a handler gives has a
-- higher level than the one by which it gave it.
use Rattle.std.proofs.Common.{◌≡◌, ℕ, zero, suc, ◌<◌, ◌≤◌, List, [], ◌∷◌, ◌++◌, drop, take, refl, sym, ap, ◌∙◌, subst, append_assoc, arith}
use Rattle.std.specs.List.{AllByRecursion}
use Rattle.std.proofs.lemmas.List.{append_cancel_left, take-append-drop}
use Rattle.list_facts.specs.Prefix.{IsPrefix}
use Rattle.list_facts.proofs.Elements.{all_append, all_prefix, all_weaker, every}
use Rattle.list_facts.proofs.Prefix.{prefix_append, prefix_trans}
use Rattle.list_facts.proofs.Sublist.{sublist_all, sublist_filter}
use Rattle.msg_codec.specs.declared.letter.Letter.{Letter}
use Rattle.world_core.specs.declared.entry.Entry.{Entry}
use Rattle.world_core.specs.Log.{letters_taken}
use Rattle.world_core.specs.Pairs.{arrived, is_of_pair, of_pair, pair_put, pair_taken, sent}
use Rattle.world_core.proofs.Pairs.Unchanged.{pair_put-append, pair_taken-append}
use Rattle.comm_rank.specs.Fold.{Applies, fold_from, given_by, handed_from}
use Rattle.comm_rank.proofs.Rank.RanFrom.{pair_of_rank}
use Rattle.term_barrier.specs.Account.{given_in, handler_at}
use Rattle.term_barrier.specs.CompleteRun.{OwnLetters}
use Rattle.term_barrier.specs.Cuts.{AreQuietCuts, phase_start}
use Rattle.term_barrier.specs.Passed.{HasPassed, LevelsRise, TookPrefixes}
use Rattle.term_barrier.proofs.CompleteRun.Arrived.{are_arrivals, arrived_after, of_each_sender}
use Rattle.term_barrier.proofs.Cuts.Quiet.{quiet_start}
use Rattle.term_barrier.proofs.Merge.Joined.{merge_is_other, merge_same}

-- no letter has every level
none_above : (level : Letter → ℕ) (letters : List Letter) → ((bound : ℕ) → AllByRecursion (λ l. bound ≤ level l) letters) → letters ≡ []
none_above level [] all = refl
none_above level (l ∷ letters) all = absurd (let high : suc (level l) ≤ level l = (all (suc (level l))).0 in omega (arith, high))

module _ {C : Type 0} (apply : Applies C) (level : Letter → ℕ) (rise : LevelsRise apply level) (here ranks bound : ℕ) where
  abbrev Above : Letter → Type 0
  Above l = suc bound ≤ level l

  -- what the handler gives by letters of at least a level is above that level
  given_above : (c : C) (letters : List Letter) → AllByRecursion (λ l. bound ≤ level l) letters → AllByRecursion Above (handed_from apply here ranks c letters)
  given_above c [] all = tt
  given_above c (l ∷ letters) all =
      let next = (apply c here ranks l).0 in
      let given = given_by apply here ranks c l in
      let high : bound ≤ level l = all.0 in
      all_append Above given (handed_from apply here ranks next letters)
      (all_weaker (λ g. level l < level g) Above given (λ g lt. omega (arith, lt, high)) (rise c here ranks l))
      (given_above next letters all.1)

module _ {C : Type 0} (apply : Applies C) (level : Letter → ℕ) (ranks phases : ℕ) (start : ℕ → C) (own : OwnLetters)
    (cuts : ℕ → ℕ → ℕ) (held : ℕ → List Letter) (logs : ℕ → List Entry)
    (passed : (rank : ℕ) → rank < ranks → HasPassed (handler_at apply ranks start rank) (own rank) (cuts rank) phases (held rank) (logs rank))
    (none_own : (rank to : ℕ) → rank < ranks → own rank phases to ≡ [])
    (quiet : AreQuietCuts ranks phases logs cuts) (took : TookPrefixes logs) (rise : LevelsRise apply level) where
  -- the log of a rank up to its last cut, and after it
  abbrev before : ℕ → List Entry
  before rank = take (phase_start (cuts rank) phases) (logs rank)

  abbrev after : ℕ → List Entry
  after rank = drop (phase_start (cuts rank) phases) (logs rank)

  whole : (rank : ℕ) → before rank ++ after rank ≡ logs rank
  whole rank = take-append-drop (phase_start (cuts rank) phases) (logs rank)

  -- what the handler gave after the last cut
  abbrev given_after : ℕ → List Letter
  given_after rank = given_in (handler_at apply ranks start rank) (before rank) (after rank)

  -- what was taken after the last cut was put after it
  put_after : (from to : ℕ) → from < ranks → to < ranks → IsPrefix (pair_taken from to (after to)) (pair_put from to (after from))
  put_after from to f t =
      let first = pair_taken from to (before to) in
      let taken = pair_taken from to (after to) in
      let put = pair_put from to (after from) in
      let rest = (took from to).rest in
      record {
        rest = rest;
        joined =
            append_cancel_left first (taken ++ rest) put
            (sym (append_assoc first taken rest)
            ∙ ap (λ ls. ls ++ rest) (sym (pair_taken-append from to (before to) (after to)) ∙ ap (pair_taken from to) (whole to))
            ∙ (took from to).joined
            ∙ sym (ap (pair_put from to) (whole from)) ∙ pair_put-append from to (before from) (after from)
            ∙ ap (λ ls. ls ++ put) (quiet_start ranks phases logs cuts quiet phases (omega arith) from to f t));
      }

  -- what was sent after the last cut is what the handler gave after it
  sent_is_given : (from to : ℕ) → from < ranks → sent from to (after from) (held from) ≡ of_pair from to (given_after from)
  sent_is_given from to f =
      merge_is_other (of_pair from to (given_after from)) (sent from to (after from) (held from))
      (merge_same (none_own from to f) refl refl ((passed from f).account.present to))

  -- whatever the level, each letter that arrived after the last cut has at least that level
  all_above : (bound rank : ℕ) → rank < ranks → AllByRecursion (λ l. bound ≤ level l) (arrived rank (after rank))
  all_above zero rank r = every _ _ (λ l. omega arith)
  all_above (suc bound) rank r =
      let P : Letter → Type 0 = λ l. suc bound ≤ level l in
      of_each_sender P ranks rank (arrived rank (after rank))
      (are_arrivals ranks rank (letters_taken (after rank)) (arrived_after _ rank (phase_start (cuts rank) phases) (logs rank) (passed rank r).senders))
      (λ from f.
      let given : AllByRecursion P (given_after from) =
      given_above apply level rise from ranks bound (fold_from apply from ranks (start from) (arrived from (before from))) (arrived from (after from)) (all_above bound from f) in
      let sends : AllByRecursion P (sent from rank (after from) (held from)) =
      subst (AllByRecursion P) (sym (sent_is_given from rank f)) (sublist_all P (sublist_filter (is_of_pair from rank) (given_after from)) given) in
      subst (AllByRecursion P) (sym (pair_of_rank from rank (letters_taken (after rank))))
      (all_prefix P (prefix_trans (put_after from rank f r) (prefix_append (pair_put from rank (after from)) (of_pair from rank (held from)))) sends))

  pub nothing_after : (rank : ℕ) → rank < ranks → arrived rank (drop (phase_start (cuts rank) phases) (logs rank)) ≡ []
  nothing_after rank r = none_above level (arrived rank (after rank)) (λ bound. all_above bound rank r)
