-- Two ranks of a layout, with one of them replaced by another rank.
use Rattle.std.proofs.Common.{ℕ, ◌<◌}
use Rattle.ygm_route.specs.Layout.{Shape, AreRanks}

module _ (layout : Shape) where
  -- a rank and the destination
  pub towards : (s d r : ℕ) → AreRanks layout s d → r < layout.ranks → AreRanks layout r d
  towards s d r ranks within = record { laid_out = ranks.laid_out; from_within = within; to_within = ranks.to_within }

  -- the sender and a rank
  pub onto : (s d r : ℕ) → AreRanks layout s d → r < layout.ranks → AreRanks layout s r
  onto s d r ranks within = record { laid_out = ranks.laid_out; from_within = ranks.from_within; to_within = within }
