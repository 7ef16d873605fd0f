-- Entries of control letters, and a Count that is put with nothing held.
use Rattle.std.proofs.Common.{◌≡◌, ℕ, ◌≤◌, Bool, false, ◌&&◌, List, [], ◌++◌, drop, length, take, refl, sym, ap, ◌∙◌, arith, append-nil, length-append}
use Rattle.std.specs.List.{AllByRecursion}
use Rattle.std.proofs.Math.Seq.{drop-append_seam, take-append_seam}
use Rattle.std.proofs.lemmas.List.{take-append-le}
use Rattle.list_facts.proofs.Elements.{all_weaker}
use Rattle.list_facts.proofs.Filters.{filter_none}
use Rattle.msg_codec.specs.declared.letter.Letter.{Letter}
use Rattle.world_core.specs.declared.entry.Entry.{Entry}
use Rattle.world_core.specs.Log.{letters_put, letters_taken}
use Rattle.world_core.specs.Pairs.{arrived, is_data, of_pair, pair_put, sent}
use Rattle.world_core.proofs.Pairs.Unchanged.{pair_put-append}
use Rattle.comm_rank.specs.Fold.{fold_from, handed_from}
use Rattle.term_barrier.specs.Account.{Account, RankHandler, given_in}
use Rattle.term_barrier.specs.CountedPlace.{IsCountedPlace, MovesNone}
use Rattle.term_barrier.specs.Cuts.{phase_start}
use Rattle.term_barrier.proofs.Account.Grown.{SentGiven}
use Rattle.term_barrier.proofs.Account.Kept.{account_grown, made_elsewhere, starts_within}
use Rattle.term_barrier.proofs.CountedPlace.Kept.{counted_grown}
use Rattle.term_barrier.proofs.Merge.Joined.{merge_same}

-- ---- entries that move no letter of a rank

fails_first : (a b : Bool) → a ≡ false → (a && b) ≡ false
fails_first a b h = rw h refl

pub moves_none : (here : ℕ) (entries : List Entry) → AllByRecursion (λ l. is_data l ≡ false) (letters_put entries) →
    AllByRecursion (λ l. is_data l ≡ false) (letters_taken entries) → MovesNone here entries
moves_none here entries put taken = record {
  puts = λ to.
      filter_none _ (letters_put entries)
      (all_weaker _ _ (letters_put entries) (λ l h. fails_first (is_data l && _) _ (fails_first (is_data l) _ h)) put);
  takes = filter_none _ (letters_taken entries) (all_weaker _ _ (letters_taken entries) (λ l h. fails_first (is_data l) _ h) taken);
}

module _ {C : Type 0} (handler : RankHandler C) (held : List Letter) (log entries : List Entry)
    (moves : MovesNone handler.here entries) where
  none_given : (before : List Entry) → given_in handler before entries ≡ []
  none_given before =
      let from = fold_from handler.apply handler.here handler.ranks handler.start (arrived handler.here before) in
      ap (handed_from handler.apply handler.here handler.ranks from) moves.takes

  gave_none : SentGiven handler held held log entries
  gave_none = record {
    sent = λ to.
        let put = pair_put handler.here to log in
        ap (λ ls. ls ++ of_pair handler.here to held)
        (pair_put-append handler.here to log entries ∙ ap (λ ls. put ++ ls) (moves.puts to) ∙ append-nil put)
        ∙ sym (append-nil (sent handler.here to log held))
        ∙ ap (λ ls. sent handler.here to log held ++ of_pair handler.here to ls) (sym (none_given log));
  }

  pub account_unmoved : (own : ℕ → ℕ → List Letter) (cut : ℕ → ℕ) (phase : ℕ) →
      Account handler own cut phase held log → Account handler own cut phase held (log ++ entries)
  account_unmoved own cut phase account = account_grown handler own cut phase held held log entries gave_none account

  pub counted_unmoved : (own : ℕ → List Letter) (begin place : ℕ) →
      IsCountedPlace handler own begin place held log → IsCountedPlace handler own begin place held (log ++ entries)
  counted_unmoved own begin place counted = counted_grown handler own begin place held held log entries gave_none counted

  -- a Count is put where nothing is held
  pub counted_put : (own : ℕ → ℕ → List Letter) (cut : ℕ → ℕ) (phase : ℕ) → ((to : ℕ) → of_pair handler.here to held ≡ []) →
      Account handler own cut phase held log →
      IsCountedPlace handler (own phase) (phase_start cut phase) (length log) held (log ++ entries)
  counted_put own cut phase none account =
      let here = handler.here in
      let begin = phase_start cut phase in
      let begins : begin ≤ length log = starts_within handler own cut phase held log account phase (omega arith) in
      let first = take (length log) (log ++ entries) in
      let whole : take (length log) (log ++ entries) ≡ log = take-append_seam log entries in
      let rest : drop (length log) (log ++ entries) ≡ entries = drop-append_seam log entries in
      record {
        order = begins;
        within = omega (arith, length-append log entries);
        before =
            made_elsewhere handler (own phase) []
            (sym (take-append-le begin log entries begins)) (ap (drop begin) (sym whole))
            (λ to. merge_same refl refl (ap (λ ls. pair_put here to (drop begin log) ++ ls) (none to)) (account.present to));
        since = λ to.
            ap (λ es. sent here to es held) rest
            ∙ ap (λ ls. ls ++ of_pair here to held) (moves.puts to) ∙ none to
            ∙ sym (ap (of_pair here to) (none_given first))
            ∙ ap (λ es. of_pair here to (given_in handler first es)) (sym rest);
      }
