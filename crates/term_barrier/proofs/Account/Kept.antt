-- An account is kept as its log gains entries and no own letter is sent, and with other later cuts and own letters.
use Rattle.std.proofs.Common.{◌≡◌, ℕ, zero, suc, ◌<◌, ◌≤◌, List, [], ◌++◌, drop, length, take, refl, sym, ap, ◌∙◌, subst, arith, length-append}
use Rattle.std.proofs.lemmas.List.{drop-append-le, take-append-drop, take-append-le}
use Rattle.msg_codec.specs.declared.letter.Letter.{Letter}
use Rattle.world_core.specs.declared.entry.Entry.{Entry}
use Rattle.term_barrier.specs.Account.{Account, IsMadeOf, RankHandler}
use Rattle.term_barrier.specs.Cuts.{between, phase_part, phase_start}
use Rattle.term_barrier.proofs.Account.Grown.{SentGiven, made_grown}
use Rattle.term_barrier.proofs.Cuts.Joined.{between_grown}
use Rattle.term_barrier.proofs.Merge.Joined.{merge_same}

-- ---- the same entries, and the same own letters

pub made_elsewhere : {C : Type 0} (handler : RankHandler C) (own : ℕ → List Letter)
    {before before_now part part_now : List Entry} (held : List Letter) →
    before ≡ before_now → part ≡ part_now → IsMadeOf handler own before part held → IsMadeOf handler own before_now part_now held
made_elsewhere handler own {before} {before_now} {part} {part_now} held a b made =
    subst (λ es. IsMadeOf handler own es part_now held) a (subst (λ es. IsMadeOf handler own before es held) b made)

pub made_same : {C : Type 0} (handler : RankHandler C) (own own_now : ℕ → List Letter) (before part : List Entry) (held : List Letter) →
    ((to : ℕ) → own_now to ≡ own to) → IsMadeOf handler own before part held → IsMadeOf handler own_now before part held
made_same handler own own_now before part held owns made to = merge_same (sym (owns to)) refl refl (made to)

-- each phase up to the present one begins within the log
pub starts_within : {C : Type 0} (handler : RankHandler C) (own : ℕ → ℕ → List Letter) (cut : ℕ → ℕ) (phase : ℕ)
    (held : List Letter) (log : List Entry) →
    Account handler own cut phase held log → (k : ℕ) → k ≤ phase → phase_start cut k ≤ length log
starts_within handler own cut phase held log account zero le = omega arith
starts_within handler own cut phase held log account (suc k) le = account.within k (omega (arith, le))

-- ---- the log gains entries

pub account_grown : {C : Type 0} (handler : RankHandler C) (own : ℕ → ℕ → List Letter) (cut : ℕ → ℕ) (phase : ℕ)
    (held held_now : List Letter) (log more : List Entry) → SentGiven handler held held_now log more →
    Account handler own cut phase held log → Account handler own cut phase held_now (log ++ more)
account_grown handler own cut phase held held_now log more gave account = record {
  order = account.order;
  within = λ k lt. omega (arith, account.within k lt, length-append log more);
  past = λ k lt.
      let begin = phase_start cut k in
      let le = starts_within handler own cut phase held log account k (omega (arith, lt)) in
      made_elsewhere handler (own k) []
      (sym (take-append-le begin log more le)) (sym (between_grown begin (cut k) log more (account.within k lt)))
      (account.past k lt);
  present =
      let begin = phase_start cut phase in
      let le = starts_within handler own cut phase held log account phase (omega arith) in
      made_elsewhere handler (own phase) held_now
      (sym (take-append-le begin log more le)) (sym (drop-append-le begin log more le))
      (made_grown handler held held_now (take begin log) (drop begin log) more
      (subst (λ es. SentGiven handler held held_now es more) (sym (take-append-drop begin log)) gave)
      (own phase) account.present);
}

-- ---- other own letters and cuts

-- An account speaks of the cuts before its phase alone, and of own letters up to it.
module _ {C : Type 0} (handler : RankHandler C) (own other : ℕ → ℕ → List Letter) (cut other_cut : ℕ → ℕ) (phase : ℕ)
    (held : List Letter) (log : List Entry)
    (cuts : (k : ℕ) → k < phase → other_cut k ≡ cut k) (owns : (k to : ℕ) → k ≤ phase → other k to ≡ own k to) where
  pub same_start : (k : ℕ) → k ≤ phase → phase_start other_cut k ≡ phase_start cut k
  same_start zero le = refl
  same_start (suc k) le = cuts k (omega (arith, le))

  same_part : (k : ℕ) → k < phase → phase_part other_cut k log ≡ phase_part cut k log
  same_part k lt =
      ap (λ n. between n (other_cut k) log) (same_start k (omega (arith, lt))) ∙ ap (λ n. between (phase_start cut k) n log) (cuts k lt)

  pub account_same : Account handler own cut phase held log → Account handler other other_cut phase held log
  account_same account = record {
    order = λ k lt. omega (arith, same_start k (omega (arith, lt)), cuts k lt, account.order k lt);
    within = λ k lt. omega (arith, cuts k lt, account.within k lt);
    past = λ k lt.
        let le : k ≤ phase = omega (arith, lt) in
        made_elsewhere handler (other k) [] (ap (λ n. take n log) (sym (same_start k le))) (sym (same_part k lt))
        (made_same handler (own k) (other k) (take (phase_start cut k) log) (phase_part cut k log) [] (λ to. owns k to le) (account.past k lt));
    present =
        let begin = phase_start cut phase in
        let le : phase ≤ phase = omega arith in
        made_elsewhere handler (other phase) held
        (ap (λ n. take n log) (sym (same_start phase le))) (ap (λ n. drop n log) (sym (same_start phase le)))
        (made_same handler (own phase) (other phase) (take begin log) (drop begin log) held (λ to. owns phase to le) account.present);
  }
