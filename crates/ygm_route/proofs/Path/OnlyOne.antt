-- The path is the one list of ranks that its rules allow.
use Rattle.std.proofs.Common.{◌≡◌, ◌≢◌, ℕ, ◌<◌, Bool, true, false, List, [], ◌∷◌, ◌++◌, ap, sym, ◌∙◌, refl, subst, inl, inr}
use Rattle.std.specs.Bool.{IsTrue}
use Rattle.ygm_route.specs.declared.scheme.Scheme.{Scheme}
use Rattle.ygm_route.specs.Layout.{Shape, AreRanks}
use Rattle.ygm_route.specs.Hop.{hop}
use Rattle.ygm_route.specs.Path.{path, passes, crosses, IsPath}
use Rattle.ygm_route.proofs.Hop.AtMostThree.{at_once, over_one, over_two, way}
use Rattle.ygm_route.proofs.Path.Computed.{path-near, path-one, path-two}
use Rattle.ygm_route.proofs.Path.FirstOrLater.{passes-cons, passes_first, passes_later, crosses_first, crosses_later}
use Rattle.ygm_route.proofs.Hop.Within.{hop_within}
use Rattle.ygm_route.proofs.Layouts.AreRanks.{towards}
use Rattle.ygm_route.proofs.Path.FollowsHops.{crosses_next_hops}
use Rattle.ygm_route.proofs.Path.GoesOn.{path_arrives, path_goes_on}

not_in_one : (m d : ℕ) → m ≢ d → ¬ IsTrue (passes (m ∷ []) d)
not_in_one m d ne h = elim (passes-cons m [] d h) [ inl e ↦ ne e | inr none ↦ (let f : ◌≡◌ {A = Bool} false true = none in cc) ]

not_in_two : (m k d : ℕ) → m ≢ d → k ≢ d → ¬ IsTrue (passes (m ∷ k ∷ []) d)
not_in_two m k d ne nf h = elim (passes-cons m (k ∷ []) d h) [ inl e ↦ ne e | inr t ↦ not_in_one k d nf t ]

module _ (layout : Shape) (scheme : Scheme) where
  -- what is between the sender and the destination is what the next hops lead to
  only_between : (s d : ℕ) → AreRanks layout s d → (between : List ℕ) → ¬ IsTrue (passes between d) → ((a b : ℕ) → IsTrue (crosses (s ∷ between ++ d ∷ []) a b) → b ≡ hop layout scheme a d) → s ∷ between ++ d ∷ [] ≡ path layout scheme s d
  only_between s d ranks [] once follows = sym (path_arrives layout scheme s d ranks (sym (follows s d (crosses_first s d [] s d refl refl))))
  only_between s d ranks (x ∷ rest) once follows =
      let e : x ≡ hop layout scheme s d = follows s x (crosses_first s x (rest ++ d ∷ []) s x refl refl) in
      let within : x < layout.ranks = subst (λ y. y < layout.ranks) (sym e) (hop_within layout scheme s d ranks) in
      let on : hop layout scheme s d ≢ d = λ f. once (passes_first x rest d (e ∙ f)) in
      let go : x ∷ rest ++ d ∷ [] ≡ path layout scheme x d = only_between x d (towards layout s d x ranks within) rest (λ h. once (passes_later x rest d h)) (λ a b h. follows a b (crosses_later s x (rest ++ d ∷ []) a b h)) in
      ap (λ xs. s ∷ xs) go ∙ ap (λ y. s ∷ path layout scheme y d) e ∙ sym (path_goes_on layout scheme s d ranks on)

  pub path_is_path : (s d : ℕ) → AreRanks layout s d → IsPath layout scheme s d (path layout scheme s d)
  path_is_path s d ranks =
      let follows : (a b : ℕ) → IsTrue (crosses (path layout scheme s d) a b) → b ≡ hop layout scheme a d = λ a b h. crosses_next_hops layout scheme s d a b ranks h in
      elim (way layout s d ranks scheme) [
        | at_once e ↦ record { between = []; ends = path-near layout scheme s d ranks e; arrives_once = λ h. (let f : ◌≡◌ {A = Bool} false true = h in cc); follows = follows }
        | over_one m _ over ↦ record { between = m ∷ []; ends = path-one layout scheme s d ranks m over; arrives_once = not_in_one m d over.m_d; follows = follows }
        | over_two m k _ over ↦ record { between = m ∷ k ∷ []; ends = path-two layout scheme s d ranks m k over; arrives_once = not_in_two m k d over.m_d over.k_d; follows = follows }
      ]

  pub path_is_only_path : (s d : ℕ) (ranks : List ℕ) → AreRanks layout s d → IsPath layout scheme s d ranks → ranks ≡ path layout scheme s d
  path_is_only_path s d ranks within p =
      p.ends ∙ only_between s d within p.between p.arrives_once (subst (λ rs. (a b : ℕ) → IsTrue (crosses rs a b) → b ≡ hop layout scheme a d) p.ends p.follows)
