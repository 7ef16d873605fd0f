-- Which rounds of a world ended a barrier, and how many did.
use Rattle.std.proofs.Common.{◌≡◌, ℕ, ◌≤◌, ◌<◌, Bool, true, false, not, nat_lt, ltb-true, refl, sym, ap, ◌∙◌, inl, inr, arith}
use Rattle.std.proofs.lemmas.Bool.{cases_lt, not-false}
use Rattle.list_facts.proofs.Below.{none_below, row_is, row_passes}
use Rattle.world_core.specs.Counts.{counts}
use Rattle.world_core.specs.Rounds.{ended_below, ends}
use Rattle.world_core.specs.Wave.{EndsBarrier, IsComplete, complete_count, ended_count, is_complete, sums_at}
use Rattle.world_core.specs.World.{Logs, log_of}
use Rattle.world_core.proofs.Rounds.AtRound.{ended_grows}

module _ (world : Logs) where
  pub complete : (q : ℕ) → is_complete world q ≡ true → IsComplete world q
  complete q h rank within =
      let lacks : not (nat_lt q (counts (log_of world rank))) ≡ false = none_below (λ r. not (nat_lt q (counts (log_of world r)))) world.layout.ranks (not_true _ h) rank within in
      ltb-true _ _ (not-false _ lacks)
    where
      not_true : (b : Bool) → not b ≡ true → b ≡ false
      not_true true k = absurd cc
      not_true false k = refl

  -- after a walk over all rounds that are complete
  pub count_is : (q ended : ℕ) → q ≤ counts (log_of world 0) → ((j : ℕ) → j < q → is_complete world j ≡ true) →
      (q < counts (log_of world 0) → is_complete world q ≡ false) → ended ≡ ended_below (sums_at world) q → ended ≡ ended_count world
  count_is q ended within before here is = is ∙ ap (ended_below (sums_at world)) (sym (row_is (is_complete world) (counts (log_of world 0)) q within before here))

  module _ (k : ℕ) (there : k < ended_count world) where
    pub ends_barrier : (q : ℕ) → ends (sums_at world) q ≡ true → k ≡ ended_below (sums_at world) q → EndsBarrier world k q
    ends_barrier q e is = elim (cases_lt q (complete_count world)) [
      | inl within ↦ record { complete = complete q (row_passes (is_complete world) (counts (log_of world 0)) q within); ends = e; number = sym is }
      | inr past ↦ absurd (let few = ended_grows (sums_at world) (complete_count world) q past in omega (arith, few, is, there))
    ]

    -- it is among the rounds that rank 0 counted
    pub found_before : (ended q : ℕ) → complete_count world ≤ q → ended ≡ ended_below (sums_at world) q → ended ≤ k → ⊥
    found_before ended q past is few = let grown = ended_grows (sums_at world) (complete_count world) q past in absurd (omega (arith, grown, is, few, there))
