-- A path goes on from the next hop, and from each rank on it, as if that were the sender.
use Rattle.std.proofs.Common.{◌≡◌, ◌≢◌, ℕ, [], ◌∷◌, ap, sym, ◌∙◌}
use Rattle.std.specs.Bool.{IsTrue}
use Rattle.list_facts.specs.Prefix.{IsSuffix}
use Rattle.ygm_route.specs.declared.scheme.Scheme.{Scheme}
use Rattle.ygm_route.specs.Layout.{Shape, AreRanks}
use Rattle.ygm_route.specs.Hop.{hop}
use Rattle.ygm_route.specs.Path.{path, passes}
use Rattle.ygm_route.proofs.Hop.AtMostThree.{at_once, over_one, over_two, way}
use Rattle.ygm_route.proofs.Path.Computed.{path-near, path-one, path-two, path-two_rest}
use Rattle.ygm_route.proofs.Path.Places.{is_sender, is_destination, is_between, is_first, is_second, standing}
use Rattle.ygm_route.proofs.Layouts.AreRanks.{towards}
use Rattle.ygm_route.proofs.Hop.Within.{hop_within}

module _ (layout : Shape) (scheme : Scheme) where
  -- where the next hop is the destination, the path is the link to it
  pub path_arrives : (s d : ℕ) → AreRanks layout s d → hop layout scheme s d ≡ d → path layout scheme s d ≡ s ∷ d ∷ []
  path_arrives s d ranks e = path-near layout scheme s d ranks e

  -- otherwise it goes on from there
  pub path_goes_on : (s d : ℕ) → AreRanks layout s d → hop layout scheme s d ≢ d → path layout scheme s d ≡ s ∷ path layout scheme (hop layout scheme s d) d
  path_goes_on s d ranks on = elim (way layout s d ranks scheme) [
    | at_once e ↦ absurd (on e)
    | over_one m _ over ↦ path-one layout scheme s d ranks m over ∙ ap (λ xs. s ∷ xs) (sym (ap (λ x. path layout scheme x d) over.first ∙ path-near layout scheme m d (towards layout s d m ranks over.m_within) over.second))
    | over_two m k _ over ↦ path-two layout scheme s d ranks m k over ∙ ap (λ xs. s ∷ xs) (sym (ap (λ x. path layout scheme x d) over.first ∙ path-two_rest layout scheme s d ranks m k over))
  ]

  -- from a rank on the path the rest of it is the path from there
  pub rest_is_path : (s d r : ℕ) → AreRanks layout s d → IsTrue (passes (path layout scheme s d) r) → r ≢ d → IsSuffix (path layout scheme r d) (path layout scheme s d)
  rest_is_path s d r ranks h on = elim (standing layout scheme s d ranks r h) [
    | is_sender e ↦ record { before = []; joined = ap (λ x. path layout scheme x d) (sym e) }
    | is_destination e ↦ absurd (on (sym e))
    | is_between over ↦ record { before = s ∷ []; joined = ap (λ xs. s ∷ xs) (path-near layout scheme r d (towards layout s d r ranks over.m_within) over.second) ∙ sym (path-one layout scheme s d ranks r over) }
    | is_first k over ↦ record { before = s ∷ []; joined = ap (λ xs. s ∷ xs) (path-two_rest layout scheme s d ranks r k over) ∙ sym (path-two layout scheme s d ranks r k over) }
    | is_second m over ↦ record { before = s ∷ m ∷ []; joined = ap (λ xs. s ∷ m ∷ xs) (path-near layout scheme r d (towards layout s d r ranks over.k_within) over.third) ∙ sym (path-two layout scheme s d ranks m r over) }
  ]

-- as the public functions state it
pub ruleset going_on = (path_arrives, path_goes_on, rest_is_path, hop_within)
