-- The links of a path join its ranks.
use Rattle.std.proofs.Common.{◌≢◌, ℕ, [], ◌∷◌, sym, refl, subst}
use Rattle.std.specs.Bool.{IsTrue}
use Rattle.ygm_route.specs.declared.scheme.Scheme.{Scheme}
use Rattle.ygm_route.specs.Layout.{Shape, AreRanks}
use Rattle.ygm_route.specs.Path.{path, passes, crosses}
use Rattle.ygm_route.proofs.Path.FirstOrLater.{crosses_first, crosses_later, passes_first, passes_later}
use Rattle.ygm_route.proofs.Path.Computed.{path-near, path-one, path-two}
use Rattle.ygm_route.proofs.Path.Places.{is_sender, is_destination, is_between, is_first, is_second, standing, is_whole, into_one, out_of_one, into_first, first_to_second, out_of_second, crossing}
use Rattle.ygm_route.proofs.Path.Tree.{some_parent}

module _ (layout : Shape) (scheme : Scheme) where
  -- a link starts on the path
  pub link_start : (s d a b : ℕ) → AreRanks layout s d → IsTrue (crosses (path layout scheme s d) a b) → IsTrue (passes (path layout scheme s d) a)
  link_start s d a b ranks h = elim (crossing layout scheme s d ranks a b h) [
    | is_whole e f g ↦ rw (path-near layout scheme s d ranks e) (passes_first s (d ∷ []) a f)
    | into_one f over ↦ rw (path-one layout scheme s d ranks b over) (passes_first s (b ∷ d ∷ []) a f)
    | out_of_one over g ↦ rw (path-one layout scheme s d ranks a over) (passes_later s (a ∷ d ∷ []) a (passes_first a (d ∷ []) a refl))
    | into_first k f over ↦ rw (path-two layout scheme s d ranks b k over) (passes_first s (b ∷ k ∷ d ∷ []) a f)
    | first_to_second over ↦ rw (path-two layout scheme s d ranks a b over) (passes_later s (a ∷ b ∷ d ∷ []) a (passes_first a (b ∷ d ∷ []) a refl))
    | out_of_second m over g ↦ rw (path-two layout scheme s d ranks m a over) (passes_later s (m ∷ a ∷ d ∷ []) a (passes_later m (a ∷ d ∷ []) a (passes_first a (d ∷ []) a refl)))
  ]

  -- a link ends on the path
  pub link_end : (s d a b : ℕ) → AreRanks layout s d → IsTrue (crosses (path layout scheme s d) a b) → IsTrue (passes (path layout scheme s d) b)
  link_end s d a b ranks h = elim (crossing layout scheme s d ranks a b h) [
    | is_whole e f g ↦ rw (path-near layout scheme s d ranks e) (passes_later s (d ∷ []) b (passes_first d [] b g))
    | into_one f over ↦ rw (path-one layout scheme s d ranks b over) (passes_later s (b ∷ d ∷ []) b (passes_first b (d ∷ []) b refl))
    | out_of_one over g ↦ rw (path-one layout scheme s d ranks a over) (passes_later s (a ∷ d ∷ []) b (passes_later a (d ∷ []) b (passes_first d [] b g)))
    | into_first k f over ↦ rw (path-two layout scheme s d ranks b k over) (passes_later s (b ∷ k ∷ d ∷ []) b (passes_first b (k ∷ d ∷ []) b refl))
    | first_to_second over ↦ rw (path-two layout scheme s d ranks a b over) (passes_later s (a ∷ b ∷ d ∷ []) b (passes_later a (b ∷ d ∷ []) b (passes_first b (d ∷ []) b refl)))
    | out_of_second m over g ↦ rw (path-two layout scheme s d ranks m a over) (passes_later s (m ∷ a ∷ d ∷ []) b (passes_later m (a ∷ d ∷ []) b (passes_later a (d ∷ []) b (passes_first d [] b g))))
  ]

  -- a link leads into each rank of a path but the sender
  pub link_into : (s d b : ℕ) → AreRanks layout s d → IsTrue (passes (path layout scheme s d) b) → b ≢ s → (a : ℕ) × IsTrue (crosses (path layout scheme s d) a b)
  link_into s d b ranks h on = elim (standing layout scheme s d ranks b h) [
    | is_sender e ↦ absurd (on (sym e))
    | is_destination e ↦ subst (λ x. (a : ℕ) × IsTrue (crosses (path layout scheme s d) a x)) e (some_parent layout scheme s d ranks)
    | is_between over ↦ (s, rw (path-one layout scheme s d ranks b over) (crosses_first s b (d ∷ []) s b refl refl))
    | is_first k over ↦ (s, rw (path-two layout scheme s d ranks b k over) (crosses_first s b (k ∷ d ∷ []) s b refl refl))
    | is_second m over ↦ (m, rw (path-two layout scheme s d ranks m b over) (crosses_later s m (b ∷ d ∷ []) m b (crosses_first m b (d ∷ []) m b refl refl)))
  ]

-- as the public functions state it
pub ruleset joined = (link_start, link_end, link_into)
