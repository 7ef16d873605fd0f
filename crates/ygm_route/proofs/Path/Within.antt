-- A path passes only ranks of the layout.
use Rattle.std.proofs.Common.{ℕ, ◌<◌}
use Rattle.std.specs.Bool.{IsTrue}
use Rattle.ygm_route.specs.declared.scheme.Scheme.{Scheme}
use Rattle.ygm_route.specs.Layout.{Shape, AreRanks}
use Rattle.ygm_route.specs.Path.{path, passes}
use Rattle.ygm_route.proofs.Path.Places.{is_sender, is_destination, is_between, is_first, is_second, standing}

module _ (layout : Shape) (scheme : Scheme) where
  -- a path passes ranks of the layout
  pub passes_within : (s d r : ℕ) → AreRanks layout s d → IsTrue (passes (path layout scheme s d) r) → r < layout.ranks
  passes_within s d r ranks h = elim (standing layout scheme s d ranks r h) [
    | is_sender e ↦ rw (← e) ranks.from_within
    | is_destination e ↦ rw (← e) ranks.to_within
    | is_between over ↦ over.m_within
    | is_first k over ↦ over.m_within
    | is_second m over ↦ over.k_within
  ]
