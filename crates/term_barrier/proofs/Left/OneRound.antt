-- One round ends each barrier of a world, and the rounds rise with the barriers.
use Rattle.std.proofs.Common.{◌≡◌, ℕ, suc, ◌≤◌, ◌<◌, true, nat_lt, ltb-true, refl, arith, inl, inr, ap, ◌∙◌}
use Rattle.std.proofs.lemmas.Bool.{cases_lt}
use Rattle.list_facts.proofs.Tests.{and_first}
use Rattle.world_core.specs.Rounds.{Sums, ended_below, ends, first_round}
use Rattle.world_core.specs.Wave.{EndsBarrier, sums_at}
use Rattle.world_core.specs.World.{Logs}
use Rattle.world_core.proofs.Rounds.AtRound.{ended_grows}

module _ (sums : ℕ → Sums) (q : ℕ) (e : ends sums q ≡ true) where
  -- one barrier more ended after it
  one_more : ended_below sums (suc q) ≡ suc (ended_below sums q)
  unfolding ended_below
  one_more = rw e (omega arith)

  -- the next barrier begins after it
  begins_after : first_round sums (suc q) ≡ suc q
  unfolding first_round
  begins_after = rw e refl

  -- so the next round ends none
  not_next : ends sums (suc q) ≡ true → ⊥
  not_next next =
      let after : first_round sums (suc q) < suc q = ltb-true _ _ (and_first (nat_lt (first_round sums (suc q)) (suc q)) _ next) in
      absurd (omega (arith, after, begins_after))

module _ (world : Logs) where
  fewer_before : (k m q p : ℕ) → EndsBarrier world k q → EndsBarrier world m p → q < p → k < m
  fewer_before k m q p one other lt =
      let more = one_more (sums_at world) q one.ends in
      let grown = ended_grows (sums_at world) (suc q) p (omega (arith, lt)) in
      omega (arith, more, grown, one.number, other.number)

  pub one_round : (barrier q p : ℕ) → EndsBarrier world barrier q → EndsBarrier world barrier p → q ≡ p
  one_round barrier q p one other = elim (cases_lt q p) [
    | inl before ↦ absurd (let fewer = fewer_before barrier barrier q p one other before in omega (arith, fewer))
    | inr within ↦ elim (cases_lt p q) [
      | inl after ↦ absurd (let fewer = fewer_before barrier barrier p q other one after in omega (arith, fewer))
      | inr same ↦ omega (arith, within, same)
    ]
  ]

  pub rounds_rise : (k m q p : ℕ) → EndsBarrier world k q → EndsBarrier world m p → k < m → suc q < p
  rounds_rise k m q p one other lt = elim (cases_lt (suc q) p) [
    | inl after ↦ after
    | inr within ↦ absurd (before within)
  ]
    where
      equal : q ≡ p → ⊥
      equal same = absurd (let number = ap (ended_below (sums_at world)) same in omega (arith, number, one.number, other.number, lt))

      next : suc q ≡ p → ⊥
      next same = not_next (sums_at world) q one.ends (ap (ends (sums_at world)) same ∙ other.ends)

      before : p ≤ suc q → ⊥
      before within = elim (cases_lt p q) [
        | inl after ↦ absurd (let fewer = fewer_before m k p q other one after in omega (arith, fewer, lt))
        | inr past ↦ elim (cases_lt q p) [
          | inl less ↦ next (omega (arith, less, within))
          | inr same ↦ equal (omega (arith, past, same))
        ]
      ]
