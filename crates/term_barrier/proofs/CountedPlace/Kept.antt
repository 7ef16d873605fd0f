-- A counted place is kept as the log gains entries and no own letter is sent. It ends a phase.
use Rattle.std.proofs.Common.{◌≡◌, ℕ, suc, ◌<◌, ◌≤◌, List, [], ◌++◌, drop, length, take, refl, sym, ap, ◌∙◌, subst, arith, ⊎_elim, length-append}
use Rattle.std.proofs.lemmas.Bool.{cases_eq}
use Rattle.std.proofs.lemmas.List.{drop-append-le, take-append-drop, take-append-le}
use Rattle.msg_codec.specs.declared.letter.Letter.{Letter}
use Rattle.world_core.specs.declared.entry.Entry.{Entry}
use Rattle.world_core.specs.Pairs.{of_pair, sent}
use Rattle.term_barrier.specs.Account.{Account, IsMadeOf, RankHandler, given_in}
use Rattle.term_barrier.specs.CountedPlace.{IsCountedPlace}
use Rattle.term_barrier.specs.Cuts.{between, phase_part, phase_start}
use Rattle.term_barrier.proofs.Account.Grown.{SentGiven, given_alone_grown}
use Rattle.term_barrier.proofs.Account.Kept.{made_elsewhere, made_same}
use Rattle.term_barrier.proofs.Cuts.Joined.{between_grown}
use Rattle.term_barrier.proofs.Merge.Joined.{merge_of_other, merge_same}

pub counted_grown : {C : Type 0} (handler : RankHandler C) (own : ℕ → List Letter) (begin place : ℕ)
    (held held_now : List Letter) (log more : List Entry) → SentGiven handler held held_now log more →
    IsCountedPlace handler own begin place held log → IsCountedPlace handler own begin place held_now (log ++ more)
counted_grown handler own begin place held held_now log more gave counted =
    let begins : begin ≤ length log = omega (arith, counted.order, counted.within) in
    let parts : drop place (log ++ more) ≡ drop place log ++ more = drop-append-le place log more counted.within in
    let first : take place (log ++ more) ≡ take place log = take-append-le place log more counted.within in
    record {
      order = counted.order;
      within = omega (arith, counted.within, length-append log more);
      before =
          made_elsewhere handler own []
          (sym (take-append-le begin log more begins)) (sym (between_grown begin place log more counted.within))
          counted.before;
      since = λ to.
          ap (λ es. sent handler.here to es held_now) parts
          ∙ given_alone_grown handler held held_now (take place log) (drop place log) more
          (subst (λ es. SentGiven handler held held_now es more) (sym (take-append-drop place log)) gave)
          to (counted.since to)
          ∙ ap (λ es. of_pair handler.here to (given_in handler es (drop place log ++ more))) (sym first)
          ∙ ap (λ es. of_pair handler.here to (given_in handler (take place (log ++ more)) es)) (sym parts);
    }

-- a phase ends at a counted place, and the next begins there without own letters
pub account_next : {C : Type 0} (handler : RankHandler C) (own : ℕ → ℕ → List Letter) (cut : ℕ → ℕ) (phase : ℕ)
    (held : List Letter) (log : List Entry) → Account handler own cut phase held log →
    IsCountedPlace handler (own phase) (phase_start cut phase) (cut phase) held log →
    ((to : ℕ) → own (suc phase) to ≡ []) → Account handler own cut (suc phase) held log
account_next {C} handler own cut phase held log account counted none = record {
  order = λ k lt. last (λ j. phase_start cut j ≤ cut j) k lt account.order counted.order;
  within = λ k lt. last (λ j. cut j ≤ length log) k lt account.within counted.within;
  past = λ k lt.
      last (λ j. IsMadeOf handler (own j) (take (phase_start cut j) log) (phase_part cut j log) []) k lt account.past counted.before;
  present = λ to. merge_same (sym (none to)) refl (sym (counted.since to)) (merge_of_other _);
}
  where
    last : (P : ℕ → Type 0) (k : ℕ) → k < suc phase → ((j : ℕ) → j < phase → P j) → P phase → P k
    last P k lt below here = ⊎_elim (λ e. subst P (sym e) here) (λ ne. below k (omega (arith, lt, ne))) (cases_eq k phase)

-- it speaks of own letters by their destination
pub counted_same : {C : Type 0} (handler : RankHandler C) (own other : ℕ → List Letter) (begin place : ℕ)
    (held : List Letter) (log : List Entry) → ((to : ℕ) → other to ≡ own to) →
    IsCountedPlace handler own begin place held log → IsCountedPlace handler other begin place held log
counted_same handler own other begin place held log owns counted = record {
  order = counted.order;
  within = counted.within;
  before = made_same handler own other (take begin log) (between begin place log) [] owns counted.before;
  since = counted.since;
}
