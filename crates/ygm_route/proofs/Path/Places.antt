-- The places of ranks and of links on a path.
use Rattle.std.proofs.Common.{◌≡◌, ℕ, ap, sym, ◌∙◌, subst, inl, inr}
use Rattle.std.specs.Bool.{IsTrue}
use Rattle.ygm_route.specs.declared.scheme.Scheme.{Scheme}
use Rattle.ygm_route.specs.Layout.{Shape, AreRanks}
use Rattle.ygm_route.specs.Hop.{hop}
use Rattle.ygm_route.specs.Path.{path, passes, crosses}
use Rattle.ygm_route.proofs.Hop.AtMostThree.{OverOne, OverTwo, at_once, over_one, over_two, way}
use Rattle.ygm_route.proofs.Path.Computed.{path-near, path-one, path-two}
use Rattle.ygm_route.proofs.Path.FirstOrLater.{one_of_two, one_of_three, one_of_four, link_of_two, link_of_three, link_of_four}

-- the place of a rank on the path from s to d
pub data Standing (layout : Shape) (scheme : Scheme) (s d r : ℕ) : Type 0 where
  is_sender : s ≡ r → Standing layout scheme s d r
  is_destination : d ≡ r → Standing layout scheme s d r
  is_between : OverOne layout scheme s d r → Standing layout scheme s d r
  is_first : (k : ℕ) → OverTwo layout scheme s d r k → Standing layout scheme s d r
  is_second : (m : ℕ) → OverTwo layout scheme s d m r → Standing layout scheme s d r

-- the place of a link on the path from s to d
pub data Crossing (layout : Shape) (scheme : Scheme) (s d a b : ℕ) : Type 0 where
  is_whole : hop layout scheme s d ≡ d → s ≡ a → d ≡ b → Crossing layout scheme s d a b
  into_one : s ≡ a → OverOne layout scheme s d b → Crossing layout scheme s d a b
  out_of_one : OverOne layout scheme s d a → d ≡ b → Crossing layout scheme s d a b
  into_first : (k : ℕ) → s ≡ a → OverTwo layout scheme s d b k → Crossing layout scheme s d a b
  first_to_second : OverTwo layout scheme s d a b → Crossing layout scheme s d a b
  out_of_second : (m : ℕ) → OverTwo layout scheme s d m a → d ≡ b → Crossing layout scheme s d a b

module _ (layout : Shape) (scheme : Scheme) (s d : ℕ) (ranks : AreRanks layout s d) where
  pub standing : (r : ℕ) → IsTrue (passes (path layout scheme s d) r) → Standing layout scheme s d r
  standing r h = elim (way layout s d ranks scheme) [
    | at_once e ↦ elim (one_of_two r s d (sym (ap (λ xs. passes xs r) (path-near layout scheme s d ranks e)) ∙ h)) [
      | inl f ↦ is_sender f
      | inr f ↦ is_destination f
    ]
    | over_one m _ over ↦ elim (one_of_three r s m d (sym (ap (λ xs. passes xs r) (path-one layout scheme s d ranks m over)) ∙ h)) [
      | inl f ↦ is_sender f
      | inr rest ↦ elim rest [
        | inl f ↦ is_between (subst (λ x. OverOne layout scheme s d x) f over)
        | inr f ↦ is_destination f
      ]
    ]
    | over_two m k _ over ↦ elim (one_of_four r s m k d (sym (ap (λ xs. passes xs r) (path-two layout scheme s d ranks m k over)) ∙ h)) [
      | inl f ↦ is_sender f
      | inr rest ↦ elim rest [
        | inl f ↦ is_first k (subst (λ x. OverTwo layout scheme s d x k) f over)
        | inr more ↦ elim more [
          | inl f ↦ is_second m (subst (λ x. OverTwo layout scheme s d m x) f over)
          | inr f ↦ is_destination f
        ]
      ]
    ]
  ]

  pub crossing : (a b : ℕ) → IsTrue (crosses (path layout scheme s d) a b) → Crossing layout scheme s d a b
  crossing a b h = elim (way layout s d ranks scheme) [
    | at_once e ↦ (let f : (s ≡ a) × (d ≡ b) = link_of_two a b s d (sym (ap (λ xs. crosses xs a b) (path-near layout scheme s d ranks e)) ∙ h) in is_whole e f.0 f.1)
    | over_one m _ over ↦ elim (link_of_three a b s m d (sym (ap (λ xs. crosses xs a b) (path-one layout scheme s d ranks m over)) ∙ h)) [
      | inl f ↦ into_one f.0 (subst (λ x. OverOne layout scheme s d x) f.1 over)
      | inr f ↦ out_of_one (subst (λ x. OverOne layout scheme s d x) f.0 over) f.1
    ]
    | over_two m k _ over ↦ elim (link_of_four a b s m k d (sym (ap (λ xs. crosses xs a b) (path-two layout scheme s d ranks m k over)) ∙ h)) [
      | inl f ↦ into_first k f.0 (subst (λ x. OverTwo layout scheme s d x k) f.1 over)
      | inr rest ↦ elim rest [
        | inl f ↦ first_to_second (subst (λ x. OverTwo layout scheme s d x b) f.0 (subst (λ x. OverTwo layout scheme s d m x) f.1 over))
        | inr f ↦ out_of_second m (subst (λ x. OverTwo layout scheme s d m x) f.0 over) f.1
      ]
    ]
  ]
