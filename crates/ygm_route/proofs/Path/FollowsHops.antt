-- A path follows the next hops towards its destination.
use Rattle.std.proofs.Common.{◌≡◌, ◌≢◌, ℕ, [], ◌∷◌, ap, sym, ◌∙◌, refl, subst}
use Rattle.std.specs.Bool.{IsTrue}
use Rattle.ygm_route.specs.declared.scheme.Scheme.{Scheme}
use Rattle.ygm_route.specs.Layout.{Shape, AreRanks}
use Rattle.ygm_route.specs.Hop.{hop}
use Rattle.ygm_route.specs.Path.{path, passes, crosses}
use Rattle.ygm_route.proofs.Path.FirstOrLater.{crosses_first, crosses_later}
use Rattle.ygm_route.proofs.Hop.AtMostThree.{at_once, over_one, over_two, way}
use Rattle.ygm_route.proofs.Path.Computed.{path-near, path-one, path-two}
use Rattle.ygm_route.proofs.Path.Places.{is_sender, is_destination, is_between, is_first, is_second, standing, is_whole, into_one, out_of_one, into_first, first_to_second, out_of_second, crossing}

module _ (layout : Shape) (scheme : Scheme) where
  -- each link of a path leads to the next hop
  pub crosses_next_hops : (s d a b : ℕ) → AreRanks layout s d → IsTrue (crosses (path layout scheme s d) a b) → b ≡ hop layout scheme a d
  crosses_next_hops s d a b ranks h = elim (crossing layout scheme s d ranks a b h) [
    | is_whole e f g ↦ sym (ap (λ x. hop layout scheme x d) (sym f) ∙ e ∙ g)
    | into_one f over ↦ sym (ap (λ x. hop layout scheme x d) (sym f) ∙ over.first)
    | out_of_one over g ↦ sym (over.second ∙ g)
    | into_first k f over ↦ sym (ap (λ x. hop layout scheme x d) (sym f) ∙ over.first)
    | first_to_second over ↦ sym over.second
    | out_of_second m over g ↦ sym (over.third ∙ g)
  ]

  -- the first link of a path
  pub crosses_first_hop : (s d : ℕ) → AreRanks layout s d → IsTrue (crosses (path layout scheme s d) s (hop layout scheme s d))
  crosses_first_hop s d ranks = elim (way layout s d ranks scheme) [
    | at_once e ↦ rw (path-near layout scheme s d ranks e) (crosses_first s d [] s (hop layout scheme s d) refl (sym e))
    | over_one m _ over ↦ rw (path-one layout scheme s d ranks m over) (crosses_first s m (d ∷ []) s (hop layout scheme s d) refl (sym over.first))
    | over_two m k _ over ↦ rw (path-two layout scheme s d ranks m k over) (crosses_first s m (k ∷ d ∷ []) s (hop layout scheme s d) refl (sym over.first))
  ]

  -- a rank on the path is followed by its next hop
  pub crosses_hop : (s d a : ℕ) → AreRanks layout s d → IsTrue (passes (path layout scheme s d) a) → a ≢ d → IsTrue (crosses (path layout scheme s d) a (hop layout scheme a d))
  crosses_hop s d a ranks h on = elim (standing layout scheme s d ranks a h) [
    | is_sender e ↦ subst (λ x. IsTrue (crosses (path layout scheme s d) x (hop layout scheme x d))) e (crosses_first_hop s d ranks)
    | is_destination e ↦ absurd (on (sym e))
    | is_between over ↦ rw (path-one layout scheme s d ranks a over) (crosses_later s a (d ∷ []) a (hop layout scheme a d) (crosses_first a d [] a (hop layout scheme a d) refl (sym over.second)))
    | is_first k over ↦ rw (path-two layout scheme s d ranks a k over) (crosses_later s a (k ∷ d ∷ []) a (hop layout scheme a d) (crosses_first a k (d ∷ []) a (hop layout scheme a d) refl (sym over.second)))
    | is_second m over ↦ rw (path-two layout scheme s d ranks m a over) (crosses_later s m (a ∷ d ∷ []) a (hop layout scheme a d) (crosses_later m a (d ∷ []) a (hop layout scheme a d) (crosses_first a d [] a (hop layout scheme a d) refl (sym over.third))))
  ]

-- as the public functions state it
pub ruleset along_hops = (crosses_next_hops, crosses_hop, crosses_first_hop)
