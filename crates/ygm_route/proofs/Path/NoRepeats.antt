-- A path repeats no rank, but for a rank's path to itself.
use Rattle.std.proofs.Common.{◌≡◌, ◌≢◌, ℕ, nat_eq, List, [], ◌∷◌, ◌++◌, refl, subst}
use Rattle.std.specs.Bool.{IsTrue}
use Rattle.std.specs.List.{IsDistinct}
use Rattle.list_facts.proofs.Distinct.{distinct_two, distinct_three, distinct_four, not_before}
use Rattle.ygm_route.specs.declared.scheme.Scheme.{Scheme}
use Rattle.ygm_route.specs.Layout.{Shape, AreRanks}
use Rattle.ygm_route.specs.Path.{path, passes}
use Rattle.ygm_route.proofs.Hop.Cases.{hop-near}
use Rattle.ygm_route.proofs.Hop.AtMostThree.{at_once, over_one, over_two, way}
use Rattle.ygm_route.proofs.Path.Computed.{path-near, path-one, path-two}

module _ (layout : Shape) (scheme : Scheme) where
  -- a path to another rank repeats no rank
  pub path_distinct : (s d : ℕ) → AreRanks layout s d → s ≢ d → IsDistinct nat_eq (path layout scheme s d)
  path_distinct s d ranks apart = elim (way layout s d ranks scheme) [
    | at_once e ↦ rw (path-near layout scheme s d ranks e) (distinct_two s d apart)
    | over_one m _ over ↦ rw (path-one layout scheme s d ranks m over) (distinct_three s m d over.s_m over.s_d over.m_d)
    | over_two m k _ over ↦ rw (path-two layout scheme s d ranks m k over) (distinct_four s m k d over.s_m over.s_k over.s_d over.m_k over.m_d over.k_d)
  ]

  -- a path to oneself is one link
  pub path_to_self : (s : ℕ) → AreRanks layout s s → path layout scheme s s ≡ s ∷ s ∷ []
  path_to_self s ranks = path-near layout scheme s s ranks (hop-near layout s s scheme refl)

-- a hop leads to none of the ranks before it
pub hops_never_lead_back : (layout : Shape) (scheme : Scheme) (s d : ℕ) (before after : List ℕ) (a b : ℕ) → AreRanks layout s d → s ≢ d → path layout scheme s d ≡ before ++ a ∷ b ∷ after → ¬ IsTrue (passes (before ++ a ∷ []) b)
hops_never_lead_back layout scheme s d before after a b ranks apart e =
    λ on. let none = not_before nat_eq before a b after (subst (λ xs. IsDistinct nat_eq xs) e (path_distinct layout scheme s d ranks apart)) in cc

-- as the public functions state it
pub ruleset no_repeats = (path_distinct, path_to_self)
