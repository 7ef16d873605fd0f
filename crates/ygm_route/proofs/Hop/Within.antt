-- The next hop is a rank of the layout.
use Rattle.std.proofs.Common.{ℕ, ◌<◌}
use Rattle.ygm_route.specs.declared.scheme.Scheme.{Scheme}
use Rattle.ygm_route.specs.Layout.{Shape, AreRanks}
use Rattle.ygm_route.specs.Hop.{hop}
use Rattle.ygm_route.proofs.Hop.AtMostThree.{at_once, over_one, over_two, way}

module _ (layout : Shape) (scheme : Scheme) where
  -- the next hop is a rank
  pub hop_within : (s d : ℕ) → AreRanks layout s d → hop layout scheme s d < layout.ranks
  hop_within s d ranks = elim (way layout s d ranks scheme) [
    | at_once e ↦ rw e ranks.to_within
    | over_one m _ over ↦ rw over.first over.m_within
    | over_two m k _ over ↦ rw over.first over.m_within
  ]
