-- A rank is reached in at most three hops: at once, over one rank, or over two.
use Rattle.std.proofs.Common.{◌≡◌, ◌≢◌, ℕ, ◌+◌, ◌%◌, ◌<◌, ap, sym, ◌∙◌, refl, inl, inr}
use Rattle.std.proofs.lemmas.Bool.{cases_eq}
use Rattle.std.proofs.lemmas.Nat.{mod_below}
use Rattle.ygm_route.specs.declared.scheme.Scheme.{Scheme}
use Rattle.ygm_route.specs.declared.scheme.Scheme.TheVariants.{Direct, Nr, Nlnr}
use Rattle.ygm_route.specs.Layout.{Shape, AreRanks, node, core, rank_at}
use Rattle.ygm_route.specs.Hop.{hop, gateway}
use Rattle.ygm_route.proofs.Layouts.RankAt.{node-rank_at, core-rank_at, rank_at-node-core, apart_by_node, apart_by_core, core_within, rank_at_within}
use Rattle.ygm_route.proofs.Hop.Cases.{hop-near, hop-direct, hop-nr, hop-nlnr_out, hop-nlnr_in}

-- the path goes over the rank m alone
pub record OverOne (layout : Shape) (scheme : Scheme) (s d m : ℕ) : Type 0 where
  pub first : hop layout scheme s d ≡ m
  pub second : hop layout scheme m d ≡ d
  pub early : hop layout scheme s m ≡ m
  pub m_within : m < layout.ranks
  pub s_m : s ≢ m
  pub s_d : s ≢ d
  pub m_d : m ≢ d

-- the path goes over m and then k
pub record OverTwo (layout : Shape) (scheme : Scheme) (s d m k : ℕ) : Type 0 where
  pub first : hop layout scheme s d ≡ m
  pub second : hop layout scheme m d ≡ k
  pub third : hop layout scheme k d ≡ d
  pub early : hop layout scheme s m ≡ m
  pub early_k : hop layout scheme s k ≡ m
  pub then_k : hop layout scheme m k ≡ k
  pub m_within : m < layout.ranks
  pub k_within : k < layout.ranks
  pub s_m : s ≢ m
  pub s_k : s ≢ k
  pub s_d : s ≢ d
  pub m_k : m ≢ k
  pub m_d : m ≢ d
  pub k_d : k ≢ d

pub data Way (layout : Shape) (scheme : Scheme) (s d : ℕ) : Type 0 where
  at_once : hop layout scheme s d ≡ d → Way layout scheme s d
  over_one : (m : ℕ) → scheme ≢ Direct → OverOne layout scheme s d m → Way layout scheme s d
  over_two : (m k : ℕ) → scheme ≡ Nlnr → OverTwo layout scheme s d m k → Way layout scheme s d

module _ (layout : Shape) (s d : ℕ) (ranks : AreRanks layout s d) where
  pub way_nr : node layout s ≢ node layout d → core layout s ≢ core layout d → OverOne layout Nr s d (rank_at layout (node layout d) (core layout s))
  way_nr far cores =
      let m : ℕ = rank_at layout (node layout d) (core layout s) in
      let c : core layout s < layout.cores = core_within layout ranks.laid_out s in
      let m_node : node layout m ≡ node layout d = node-rank_at layout _ _ c in
      let m_core : core layout m ≡ core layout s = core-rank_at layout _ _ c in
      let s_far : node layout s ≢ node layout m = λ e. far (e ∙ m_node) in
      record {
        first = hop-nr layout s d far;
        second = hop-near layout m d Nr m_node;
        early = hop-nr layout s m s_far ∙ ap (λ n. rank_at layout n (core layout s)) m_node;
        m_within = rank_at_within layout ranks.laid_out d (core layout s) ranks.to_within c;
        s_m = apart_by_node layout s m s_far;
        s_d = apart_by_node layout s d far;
        m_d = apart_by_core layout m d (λ e. cores (sym m_core ∙ e));
      }

  -- the sender is the gateway
  pub way_out : node layout s ≢ node layout d → core layout s ≡ gateway layout s d → core layout d ≢ gateway layout s d → OverOne layout Nlnr s d (rank_at layout (node layout d) (gateway layout s d))
  way_out far is_gateway cores =
      let g : ℕ = gateway layout s d in
      let m : ℕ = rank_at layout (node layout d) g in
      let c : g < layout.cores = mod_below _ _ ranks.laid_out.some_core in
      let m_node : node layout m ≡ node layout d = node-rank_at layout _ _ c in
      let m_core : core layout m ≡ g = core-rank_at layout _ _ c in
      let s_far : node layout s ≢ node layout m = λ e. far (e ∙ m_node) in
      let same_gateway : gateway layout s m ≡ g = ap (λ n. (node layout s + n) % layout.cores) m_node in
      record {
        first = hop-nlnr_out layout s d far is_gateway;
        second = hop-near layout m d Nlnr m_node;
        early = hop-nlnr_out layout s m s_far (is_gateway ∙ sym same_gateway) ∙ ap (λ n. rank_at layout n (gateway layout s m)) m_node ∙ ap (λ x. rank_at layout (node layout d) x) same_gateway;
        m_within = rank_at_within layout ranks.laid_out d g ranks.to_within c;
        s_m = apart_by_node layout s m s_far;
        s_d = apart_by_node layout s d far;
        m_d = apart_by_core layout m d (λ e. cores (sym e ∙ m_core));
      }

  -- the destination is the gateway of its node
  pub way_in : node layout s ≢ node layout d → core layout s ≢ gateway layout s d → core layout d ≡ gateway layout s d → OverOne layout Nlnr s d (rank_at layout (node layout s) (gateway layout s d))
  way_in far no_gateway is_gateway =
      let g : ℕ = gateway layout s d in
      let m : ℕ = rank_at layout (node layout s) g in
      let c : g < layout.cores = mod_below _ _ ranks.laid_out.some_core in
      let m_node : node layout m ≡ node layout s = node-rank_at layout _ _ c in
      let m_core : core layout m ≡ g = core-rank_at layout _ _ c in
      let m_far : node layout m ≢ node layout d = λ e. far (sym m_node ∙ e) in
      let same_gateway : gateway layout m d ≡ g = ap (λ n. (n + node layout d) % layout.cores) m_node in
      record {
        first = hop-nlnr_in layout s d far no_gateway;
        second = hop-nlnr_out layout m d m_far (m_core ∙ sym same_gateway) ∙ ap (λ x. rank_at layout (node layout d) x) (same_gateway ∙ sym is_gateway) ∙ rank_at-node-core layout d;
        early = hop-near layout s m Nlnr (sym m_node);
        m_within = rank_at_within layout ranks.laid_out s g ranks.from_within c;
        s_m = apart_by_core layout s m (λ e. no_gateway (e ∙ m_core));
        s_d = apart_by_node layout s d far;
        m_d = apart_by_node layout m d m_far;
      }

  -- over the gateways of both nodes
  pub way_over : node layout s ≢ node layout d → core layout s ≢ gateway layout s d → core layout d ≢ gateway layout s d → OverTwo layout Nlnr s d (rank_at layout (node layout s) (gateway layout s d)) (rank_at layout (node layout d) (gateway layout s d))
  way_over far no_gateway cores =
      let g : ℕ = gateway layout s d in
      let m : ℕ = rank_at layout (node layout s) g in
      let k : ℕ = rank_at layout (node layout d) g in
      let c : g < layout.cores = mod_below _ _ ranks.laid_out.some_core in
      let m_node : node layout m ≡ node layout s = node-rank_at layout _ _ c in
      let m_core : core layout m ≡ g = core-rank_at layout _ _ c in
      let k_node : node layout k ≡ node layout d = node-rank_at layout _ _ c in
      let k_core : core layout k ≡ g = core-rank_at layout _ _ c in
      let m_far : node layout m ≢ node layout d = λ e. far (sym m_node ∙ e) in
      let s_k_far : node layout s ≢ node layout k = λ e. far (e ∙ k_node) in
      let m_k_far : node layout m ≢ node layout k = λ e. far (sym m_node ∙ e ∙ k_node) in
      let m_gateway : gateway layout m d ≡ g = ap (λ n. (n + node layout d) % layout.cores) m_node in
      let k_gateway : gateway layout s k ≡ g = ap (λ n. (node layout s + n) % layout.cores) k_node in
      let m_k_gateway : gateway layout m k ≡ g = ap (λ n. (node layout m + n) % layout.cores) k_node ∙ m_gateway in
      record {
        first = hop-nlnr_in layout s d far no_gateway;
        second = hop-nlnr_out layout m d m_far (m_core ∙ sym m_gateway) ∙ ap (λ x. rank_at layout (node layout d) x) m_gateway;
        third = hop-near layout k d Nlnr k_node;
        early = hop-near layout s m Nlnr (sym m_node);
        early_k = hop-nlnr_in layout s k s_k_far (λ e. no_gateway (e ∙ k_gateway)) ∙ ap (λ x. rank_at layout (node layout s) x) k_gateway;
        then_k = hop-nlnr_out layout m k m_k_far (m_core ∙ sym m_k_gateway) ∙ ap (λ x. rank_at layout (node layout k) x) m_k_gateway ∙ ap (λ n. rank_at layout n g) k_node;
        m_within = rank_at_within layout ranks.laid_out s g ranks.from_within c;
        k_within = rank_at_within layout ranks.laid_out d g ranks.to_within c;
        s_m = apart_by_core layout s m (λ e. no_gateway (e ∙ m_core));
        s_k = apart_by_node layout s k s_k_far;
        s_d = apart_by_node layout s d far;
        m_k = apart_by_node layout m k m_k_far;
        m_d = apart_by_node layout m d m_far;
        k_d = apart_by_core layout k d (λ e. cores (sym e ∙ k_core));
      }

  way_nlnr : node layout s ≢ node layout d → Way layout Nlnr s d
  way_nlnr far = elim (cases_eq (core layout s) (gateway layout s d)) [
    | inl out ↦ elim (cases_eq (core layout d) (gateway layout s d)) [
      | inl into ↦ at_once (hop-nlnr_out layout s d far out ∙ ap (λ x. rank_at layout (node layout d) x) (sym into) ∙ rank_at-node-core layout d)
      | inr over ↦ over_one _ (λ e. cc) (way_out far out over)
    ]
    | inr inside ↦ elim (cases_eq (core layout d) (gateway layout s d)) [
      | inl into ↦ over_one _ (λ e. cc) (way_in far inside into)
      | inr over ↦ over_two _ _ refl (way_over far inside over)
    ]
  ]

  way_far : (scheme : Scheme) → node layout s ≢ node layout d → Way layout scheme s d
  way_far Direct far = at_once (hop-direct layout s d)
  way_far Nr far = elim (cases_eq (core layout s) (core layout d)) [
    | inl same ↦ at_once (hop-nr layout s d far ∙ ap (λ x. rank_at layout (node layout d) x) same ∙ rank_at-node-core layout d)
    | inr over ↦ over_one _ (λ e. cc) (way_nr far over)
  ]
  way_far Nlnr far = way_nlnr far

  pub way : (scheme : Scheme) → Way layout scheme s d
  way scheme = elim (cases_eq (node layout s) (node layout d)) [
    | inl near ↦ at_once (hop-near layout s d scheme near)
    | inr far ↦ way_far scheme far
  ]
