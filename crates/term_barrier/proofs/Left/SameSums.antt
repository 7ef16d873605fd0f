-- Barriers end alike where the sums up to a round are the same.
use Rattle.std.proofs.Common.{◌≡◌, ℕ, zero, suc, pred, ◌≤◌, ◌<◌, refl, arith}
use Rattle.world_core.specs.Rounds.{Sums, ended_below, ends, ends_from, first_round}

pub pred_within : (q : ℕ) → pred q ≤ q
pred_within zero = omega arith
pred_within (suc q) = omega arith

module _ (sums other : ℕ → Sums) where
  ends_from-same : (first first' q : ℕ) → first ≡ first' → ((j : ℕ) → j ≤ q → sums j ≡ other j) → ends_from first sums q ≡ ends_from first' other q
  ends_from-same first first' q same each = rw (same, each (pred q) (pred_within q), each q (omega arith)) refl

  pub first_round-same : (q : ℕ) → ((j : ℕ) → j < q → sums j ≡ other j) → first_round sums q ≡ first_round other q
  unfolding first_round
  first_round-same zero each = refl
  first_round-same (suc q) each =
      let first = first_round-same q (λ j lt. each j (omega (arith, lt))) in
      let tried = ends_from-same (first_round sums q) (first_round other q) q first (λ j le. each j (omega (arith, le))) in
      rw (tried, first) refl

  pub ends-same : (q : ℕ) → ((j : ℕ) → j ≤ q → sums j ≡ other j) → ends sums q ≡ ends other q
  ends-same q each = ends_from-same (first_round sums q) (first_round other q) q (first_round-same q (λ j lt. each j (omega (arith, lt)))) each

  pub ended_below-same : (q : ℕ) → ((j : ℕ) → j < q → sums j ≡ other j) → ended_below sums q ≡ ended_below other q
  unfolding ended_below
  ended_below-same zero each = refl
  ended_below-same (suc q) each =
      let before = ended_below-same q (λ j lt. each j (omega (arith, lt))) in
      let last = ends-same q (λ j le. each j (omega (arith, le))) in
      rw (before, last) refl
