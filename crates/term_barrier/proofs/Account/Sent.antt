-- The account of a rank that has sent nothing, and of one that sent an own letter.
use Rattle.std.proofs.Common.{◌≡◌, ◌≢◌, ℕ, cond, List, [], ◌∷◌, ◌++◌, drop, take, refl, sym, ap, ◌∙◌, subst, append_assoc, arith}
use Rattle.std.proofs.lemmas.Bool.{eq-eqb, ne_eqb}
use Rattle.msg_codec.specs.declared.letter.Letter.{Letter}
use Rattle.world_core.specs.declared.entry.Entry.{Entry}
use Rattle.world_core.specs.Pairs.{of_pair, pair_put}
use Rattle.comm_rank.specs.Fold.{Applies}
use Rattle.comm_rank.specs.Held.{Gains}
use Rattle.comm_rank.specs.Rank.{HasSent, Rank, held_letters}
use Rattle.term_barrier.specs.Account.{Account, IsMadeOf, RankHandler, handler_of, with_more}
use Rattle.term_barrier.specs.Cuts.{phase_part, phase_start}
use Rattle.term_barrier.specs.Merge.IsMerge.{OfNone}
use Rattle.term_barrier.proofs.Account.Kept.{made_same}
use Rattle.term_barrier.proofs.Merge.Joined.{merge_one_more, merge_same}

pub account_fresh : {C : Type 0} (handler : RankHandler C) (cut : ℕ → ℕ) (held : List Letter) →
    ((to : ℕ) → of_pair handler.here to held ≡ []) →
    Account handler (λ phase to. []) cut 0 held []
account_fresh handler cut held none = record {
  order = λ k lt. absurd (omega (arith, lt));
  within = λ k lt. absurd (omega (arith, lt));
  past = λ k lt. absurd (omega (arith, lt));
  present = λ to. merge_same refl refl (sym (none to)) OfNone;
}

-- ---- more own letters, which are held

pub made_more : {C : Type 0} (handler : RankHandler C) (own own_now : ℕ → List Letter) (before part : List Entry)
    (held held_now letters : List Letter) →
    ((to : ℕ) → own_now to ≡ own to ++ of_pair handler.here to letters) → Gains held held_now letters →
    IsMadeOf handler own before part held → IsMadeOf handler own_now before part held_now
made_more handler own own_now before part held held_now letters owns gains made to =
    let new = of_pair handler.here to letters in
    let put = pair_put handler.here to part in
    merge_same (sym (owns to)) refl
    (append_assoc put (of_pair handler.here to held) new ∙ ap (λ ls. put ++ ls) (sym (gains.pairs handler.here to)))
    (merge_one_more new (made to))

more_there : (here : ℕ) (own : ℕ → ℕ → List Letter) (phase : ℕ) (letters : List Letter) (to : ℕ) →
    with_more here own phase letters phase to ≡ own phase to ++ of_pair here to letters
more_there here own phase letters to =
    ap (λ b. cond b (own phase to ++ of_pair here to letters) (own phase to)) (eq-eqb phase phase refl)

pub more_elsewhere : (here : ℕ) (own : ℕ → ℕ → List Letter) (phase k : ℕ) (letters : List Letter) (to : ℕ) → k ≢ phase →
    with_more here own phase letters k to ≡ own k to
more_elsewhere here own phase k letters to ne =
    ap (λ b. cond b (own k to ++ of_pair here to letters) (own k to)) (ne_eqb k phase ne)

pub account_more : {C : Type 0} (handler : RankHandler C) (own : ℕ → ℕ → List Letter) (cut : ℕ → ℕ) (phase : ℕ)
    (held held_now letters : List Letter) (log : List Entry) → Gains held held_now letters →
    Account handler own cut phase held log → Account handler (with_more handler.here own phase letters) cut phase held_now log
account_more handler own cut phase held held_now letters log gains account =
    let more = with_more handler.here own phase letters in
    let begin = phase_start cut phase in
    record {
      order = account.order;
      within = account.within;
      past = λ k lt.
          made_same handler (own k) (more k) (take (phase_start cut k) log) (phase_part cut k log) []
          (λ to. more_elsewhere handler.here own phase k letters to (λ e. omega (arith, lt, e))) (account.past k lt);
      present =
          made_more handler (own phase) (more phase) (take begin log) (drop begin log) held held_now letters
          (more_there handler.here own phase letters) gains account.present;
    }

pub account_sent : {C : Type 0} (apply : Applies C) (start : C → C) (own : ℕ → ℕ → List Letter) (cut : ℕ → ℕ) (phase : ℕ)
    (old new : Rank C) (l : Letter) (log : List Entry) → HasSent old new l →
    Account (handler_of apply start old) own cut phase (held_letters old) log →
    Account (handler_of apply start new) (with_more old.here own phase (l ∷ [])) cut phase (held_letters new) log
account_sent {C} apply start own cut phase old new l log sends account =
    let more = with_more old.here own phase (l ∷ []) in
    let P : Rank C → Type 0 = λ me. Account (handler_of apply start me) more cut phase (held_letters new) log in
    subst P (sym sends.rank)
    (account_more (handler_of apply start old) own cut phase (held_letters old) (held_letters new) (l ∷ []) log sends.held account)
