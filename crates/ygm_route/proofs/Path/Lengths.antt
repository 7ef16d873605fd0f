-- How many links a path has.
use Rattle.std.proofs.Common.{◌≡◌, ◌≢◌, ℕ, ◌+◌, ◌<◌, ◌≤◌, nat_eq, eq-eqb, false, List, length, not, ap, sym, ◌∙◌, refl, arith, lit≤, inl, inr}
use Rattle.std.proofs.lemmas.Bool.{cases_eq}
use Rattle.std.proofs.lemmas.Bool.Decides.{nat_tests}
use Rattle.std.specs.Int.{from_bool}
use Rattle.ygm_route.specs.declared.scheme.Scheme.{Scheme}
use Rattle.ygm_route.specs.declared.scheme.Scheme.TheVariants.{Direct, Nr, Nlnr}
use Rattle.ygm_route.specs.Layout.{Shape, IsLayout, AreRanks, node, core, rank_at}
use Rattle.ygm_route.specs.Hop.{gateway}
use Rattle.ygm_route.specs.Path.{path, links, most_links}
use Rattle.ygm_route.proofs.Layouts.RankAt.{rank_at-node-core}
use Rattle.ygm_route.proofs.Hop.Cases.{hop-near, hop-direct, hop-nr, hop-nlnr_out}
use Rattle.ygm_route.proofs.Hop.AtMostThree.{at_once, over_one, over_two, way, way_nr, way_out, way_in, way_over}
use Rattle.ygm_route.proofs.Path.Computed.{path-near, path-one, path-two}

-- 1 where two numbers differ
abbrev pub one_if_other : ℕ → ℕ → ℕ
one_if_other a b = from_bool (not (nat_eq a b))

one_if_other-same : (a b : ℕ) → a ≡ b → one_if_other a b ≡ 0
one_if_other-same a b e = ap (λ t. from_bool (not t)) (eq-eqb a b e)

one_if_other-other : (a b : ℕ) → a ≢ b → one_if_other a b ≡ 1
one_if_other-other a b e =
    let differ : nat_eq a b ≡ false = grind (arith, nat_tests) in
    ap (λ t. from_bool (not t)) differ

-- the number of links of the path
abbrev pub link_count : Shape → Scheme → ℕ → ℕ → ℕ
link_count layout scheme s d = length (links (path layout scheme s d))

counted : {xs ys : List ℕ} → xs ≡ ys → length (links xs) ≡ length (links ys)
counted e = ap (λ zs. length (links zs)) e

added : {x y m n : ℕ} → x ≡ m → y ≡ n → m + 1 + n ≡ x + 1 + y
added e f = cc

some_links : (scheme : Scheme) → 1 ≤ most_links scheme
some_links Direct = lit≤ tt
some_links Nr = lit≤ tt
some_links Nlnr = lit≤ tt

more_links : (scheme : Scheme) → scheme ≢ Direct → 2 ≤ most_links scheme
more_links Direct ne = absurd (ne refl)
more_links Nr ne = lit≤ tt
more_links Nlnr ne = lit≤ tt

most_links_nlnr : (scheme : Scheme) → scheme ≡ Nlnr → 3 ≤ most_links scheme
most_links_nlnr Direct e = cc
most_links_nlnr Nr e = cc
most_links_nlnr Nlnr e = lit≤ tt

module _ (layout : Shape) (s d : ℕ) (laid_out : IsLayout layout) (s_within : s < layout.ranks) (d_within : d < layout.ranks) where
  ranks : AreRanks layout s d
  ranks = record { laid_out = laid_out; from_within = s_within; to_within = d_within }

  pub link_count_near : (scheme : Scheme) → node layout s ≡ node layout d → link_count layout scheme s d ≡ 1
  link_count_near scheme near = counted (path-near layout scheme s d ranks (hop-near layout s d scheme near))

  pub link_count_direct : link_count layout Direct s d ≡ 1
  link_count_direct = counted (path-near layout Direct s d ranks (hop-direct layout s d))

  pub link_count_nr_same : node layout s ≢ node layout d → core layout s ≡ core layout d → link_count layout Nr s d ≡ 1
  link_count_nr_same far same =
      counted (path-near layout Nr s d ranks (hop-nr layout s d far ∙ ap (λ x. rank_at layout (node layout d) x) same ∙ rank_at-node-core layout d))

  pub link_count_nr_other : node layout s ≢ node layout d → core layout s ≢ core layout d → link_count layout Nr s d ≡ 2
  link_count_nr_other far other =
      counted (path-one layout Nr s d ranks _ (way_nr layout s d ranks far other))

  -- a link into the gateway where the sender is none, and a link out of it where the destination is none
  pub link_count_nlnr : node layout s ≢ node layout d → link_count layout Nlnr s d ≡ one_if_other (core layout s) (gateway layout s d) + 1 + one_if_other (core layout d) (gateway layout s d)
  link_count_nlnr far = elim (cases_eq (core layout s) (gateway layout s d)) [
    | inl out ↦ elim (cases_eq (core layout d) (gateway layout s d)) [
      | inl into ↦ counted (path-near layout Nlnr s d ranks (hop-nlnr_out layout s d far out ∙ ap (λ x. rank_at layout (node layout d) x) (sym into) ∙ rank_at-node-core layout d)) ∙ added (one_if_other-same _ _ out) (one_if_other-same _ _ into)
      | inr over ↦ counted (path-one layout Nlnr s d ranks _ (way_out layout s d ranks far out over)) ∙ added (one_if_other-same _ _ out) (one_if_other-other _ _ over)
    ]
    | inr inside ↦ elim (cases_eq (core layout d) (gateway layout s d)) [
      | inl into ↦ counted (path-one layout Nlnr s d ranks _ (way_in layout s d ranks far inside into)) ∙ added (one_if_other-other _ _ inside) (one_if_other-same _ _ into)
      | inr over ↦ counted (path-two layout Nlnr s d ranks _ _ (way_over layout s d ranks far inside over)) ∙ added (one_if_other-other _ _ inside) (one_if_other-other _ _ over)
    ]
  ]

  pub link_count_few : (scheme : Scheme) → link_count layout scheme s d ≤ most_links scheme
  link_count_few scheme = elim (way layout s d ranks scheme) [
    | at_once e ↦ rw (path-near layout scheme s d ranks e) (some_links scheme)
    | over_one m remote over ↦ rw (path-one layout scheme s d ranks m over) (more_links scheme remote)
    | over_two m k e over ↦ rw (path-two layout scheme s d ranks m k over) (most_links_nlnr scheme e)
  ]

  -- a path has one rank more than it has links
  pub path_short : (scheme : Scheme) → length (path layout scheme s d) ≤ most_links scheme + 1
  path_short scheme = elim (way layout s d ranks scheme) [
    | at_once e ↦ rw (path-near layout scheme s d ranks e) (omega (arith, some_links scheme))
    | over_one m remote over ↦ rw (path-one layout scheme s d ranks m over) (omega (arith, more_links scheme remote))
    | over_two m k e over ↦ rw (path-two layout scheme s d ranks m k over) (omega (arith, most_links_nlnr scheme e))
  ]

-- for each case of the code
pub ruleset link_counts = (link_count_near, link_count_direct, link_count_nr_same, link_count_nr_other, link_count_nlnr)

pub ruleset short_paths = (link_count_few, path_short)
