-- A walk over rounds: the first round of the present barrier, the sums of the round before, and how many barriers ended.
use Rattle.std.proofs.Common.{◌≡◌, ℕ, zero, suc, pred, ◌+◌, ◌≤◌, ◌<◌, Bool, true, false, ◌&&◌, nat_lt, add-one, refl, sym, ap, ◌∙◌, subst, inl, inr, arith}
use Rattle.std.proofs.lemmas.Bool.{cases_lt}
use Rattle.world_core.specs.Rounds.{Sums, agree, ended_below, ends, first_round}
use Rattle.world_core.proofs.Rounds.Stepwise.{ended_next, ends_now, first_next}

pub record AtRound (sums : ℕ → Sums) (q first ended : ℕ) (before : Sums) : Type 0 where
  pub first_is : first ≡ first_round sums q
  pub before_is : 0 < q → before ≡ sums (pred q)
  pub ended_is : ended ≡ ended_below sums q
  pub few : ended ≤ q

pub at_start : (sums : ℕ → Sums) (before : Sums) → AtRound sums 0 0 0 before
unfolding first_round ended_below
at_start sums before = record { first_is = refl; before_is = λ h. absurd (omega arith); ended_is = refl; few = omega arith }

module _ (sums : ℕ → Sums) (q first ended : ℕ) (before now : Sums) (at : AtRound sums q first ended before) (this : now ≡ sums q)
    (tried : Bool) (is : tried ≡ (nat_lt first q && agree before now)) where
  pub ends_here : tried ≡ ends sums q
  ends_here = is ∙ ends_now sums q first before now at.first_is at.before_is this

  pub at_ended : tried ≡ true → (later count : ℕ) → later ≡ q + 1 → count ≡ ended + 1 → AtRound sums (q + 1) later count now
  at_ended passes later count begins counted =
      let e : ends sums q ≡ true = sym ends_here ∙ passes in
      record {
        first_is = begins ∙ sym (first_next sums q ∙ rw e refl);
        before_is = λ h. this ∙ ap (λ n. sums (pred n)) (sym (add-one q));
        ended_is = (let more : ended_below sums (q + 1) ≡ ended_below sums q + 1 = ended_next sums q ∙ rw e refl in omega (arith, more, at.ended_is, counted));
        few = omega (arith, at.few, counted);
      }

  pub at_next : tried ≡ false → (later count : ℕ) → later ≡ first → count ≡ ended → AtRound sums (q + 1) later count now
  at_next fails later count begins counted =
      let e : ends sums q ≡ false = sym ends_here ∙ fails in
      record {
        first_is = begins ∙ at.first_is ∙ sym (first_next sums q ∙ rw e refl);
        before_is = λ h. this ∙ ap (λ n. sums (pred n)) (sym (add-one q));
        ended_is = (let more : ended_below sums (q + 1) ≡ ended_below sums q + 0 = ended_next sums q ∙ rw e refl in omega (arith, more, at.ended_is, counted));
        few = omega (arith, at.few, counted);
      }

-- no fewer rounds end a barrier among more rounds
pub ended_grows : (sums : ℕ → Sums) (q m : ℕ) → q ≤ m → ended_below sums q ≤ ended_below sums m
unfolding ended_below
ended_grows sums zero zero le = omega arith
ended_grows sums (suc q) zero le = absurd (omega arith)
ended_grows sums q (suc m) le = elim (cases_lt m q) [
  | inl past ↦ let same : q ≡ suc m = omega arith in let P : ℕ → Type 0 = λ n. ended_below sums n ≤ ended_below sums (suc m) in subst P (sym same) (omega arith)
  | inr within ↦ let before = ended_grows sums q m within in omega (arith, before)
]
