-- The path, computed for each number of hops.
use Rattle.std.proofs.Common.{◌≡◌, ◌≢◌, ℕ, ◌≤◌, zero, suc, nat_eq, true, false, cond, [], ◌∷◌, ap, ◌∙◌, arith}
use Rattle.std.proofs.lemmas.Bool.Decides.{nat_tests}
use Rattle.ygm_route.specs.declared.scheme.Scheme.{Scheme}
use Rattle.ygm_route.specs.Layout.{Shape, AreRanks, node}
use Rattle.ygm_route.specs.Hop.{hop}
use Rattle.ygm_route.specs.Path.{path, stops}
use Rattle.ygm_route.proofs.Hop.Cases.{hop-near}
use Rattle.ygm_route.proofs.Hop.AtMostThree.{OverOne, OverTwo}

module _ (layout : Shape) (scheme : Scheme) where
  stops-arrives : (most here to : ℕ) → hop layout scheme here to ≡ to → stops layout scheme (suc most) here to ≡ to ∷ []
  stops-arrives most here to e =
      let same : nat_eq (hop layout scheme here to) to ≡ true = grind (arith, nat_tests) in
      ap (λ b. hop layout scheme here to ∷ cond b [] (stops layout scheme most (hop layout scheme here to) to)) same ∙ ap (λ x. x ∷ []) e

  stops-goes_on : (most here next to : ℕ) → hop layout scheme here to ≡ next → next ≢ to → stops layout scheme (suc most) here to ≡ next ∷ stops layout scheme most next to
  stops-goes_on most here next to e ne =
      let other : nat_eq next to ≡ false = grind (arith, nat_tests) in
      ap (λ x. x ∷ cond (nat_eq x to) [] (stops layout scheme most x to)) e ∙ ap (λ b. next ∷ cond b [] (stops layout scheme most next to)) other

  stops-at_once : (most s d : ℕ) → 1 ≤ most → hop layout scheme s d ≡ d → stops layout scheme most s d ≡ d ∷ []
  stops-at_once zero s d h e = absurd (omega arith)
  stops-at_once (suc most) s d h e = stops-arrives most s d e

  stops-over_one : (most s m d : ℕ) → 2 ≤ most → hop layout scheme s d ≡ m → m ≢ d → hop layout scheme m d ≡ d → stops layout scheme most s d ≡ m ∷ d ∷ []
  stops-over_one zero s m d h first m_d second = absurd (omega arith)
  stops-over_one (suc most) s m d h first m_d second =
      stops-goes_on most s m d first m_d ∙ ap (λ xs. m ∷ xs) (stops-at_once most m d (omega arith) second)

  stops-over_two : (most s m k d : ℕ) → 3 ≤ most → hop layout scheme s d ≡ m → m ≢ d → hop layout scheme m d ≡ k → k ≢ d → hop layout scheme k d ≡ d → stops layout scheme most s d ≡ m ∷ k ∷ d ∷ []
  stops-over_two zero s m k d h first m_d second k_d third = absurd (omega arith)
  stops-over_two (suc most) s m k d h first m_d second k_d third =
      stops-goes_on most s m d first m_d ∙ ap (λ xs. m ∷ xs) (stops-over_one most m k d (omega arith) second k_d third)

  pub path-at_once : (s d : ℕ) → 1 ≤ layout.ranks → hop layout scheme s d ≡ d → path layout scheme s d ≡ s ∷ d ∷ []
  unfolding path
  path-at_once s d h e = ap (λ xs. s ∷ xs) (stops-at_once layout.ranks s d h e)

  pub path-over_one : (s m d : ℕ) → 2 ≤ layout.ranks → hop layout scheme s d ≡ m → m ≢ d → hop layout scheme m d ≡ d → path layout scheme s d ≡ s ∷ m ∷ d ∷ []
  unfolding path
  path-over_one s m d h first m_d second = ap (λ xs. s ∷ xs) (stops-over_one layout.ranks s m d h first m_d second)

  pub path-over_two : (s m k d : ℕ) → 3 ≤ layout.ranks → hop layout scheme s d ≡ m → m ≢ d → hop layout scheme m d ≡ k → k ≢ d → hop layout scheme k d ≡ d → path layout scheme s d ≡ s ∷ m ∷ k ∷ d ∷ []
  unfolding path
  path-over_two s m k d h first m_d second k_d third = ap (λ xs. s ∷ xs) (stops-over_two layout.ranks s m k d h first m_d second k_d third)

-- the ranks that a path passes, for each number of hops
module _ (layout : Shape) (scheme : Scheme) (s d : ℕ) (ranks : AreRanks layout s d) where
  pub path-near : hop layout scheme s d ≡ d → path layout scheme s d ≡ s ∷ d ∷ []
  path-near e = path-at_once layout scheme s d ranks.laid_out.some_rank e

  module _ (m : ℕ) (over : OverOne layout scheme s d m) where
    pub path-one : path layout scheme s d ≡ s ∷ m ∷ d ∷ []
    path-one =
        let enough : 2 ≤ layout.ranks = omega (arith, over.m_within, over.m_d, ranks.to_within) in
        path-over_one layout scheme s m d enough over.first over.m_d over.second

  module _ (m k : ℕ) (over : OverTwo layout scheme s d m k) where
    enough : 3 ≤ layout.ranks
    enough = omega (arith, over.m_within, over.k_within, over.m_d, over.m_k, over.k_d, ranks.to_within)

    pub path-two : path layout scheme s d ≡ s ∷ m ∷ k ∷ d ∷ []
    path-two = path-over_two layout scheme s m k d enough over.first over.m_d over.second over.k_d over.third

    -- the path to the second rank of the path
    pub path-two_begin : path layout scheme s k ≡ s ∷ m ∷ k ∷ []
    path-two_begin = path-over_one layout scheme s m k (omega (arith, enough)) over.early_k over.m_k over.then_k

    -- the path from the first rank of the path
    pub path-two_rest : path layout scheme m d ≡ m ∷ k ∷ d ∷ []
    path-two_rest = path-over_one layout scheme m k d (omega (arith, enough)) over.second over.k_d over.third

module _ (layout : Shape) (scheme : Scheme) where
  -- a path within a node is one link
  pub path_within_node : (s d : ℕ) → AreRanks layout s d → node layout s ≡ node layout d → path layout scheme s d ≡ s ∷ d ∷ []
  path_within_node s d ranks same = path-near layout scheme s d ranks (hop-near layout s d scheme same)
