-- The next hop, case by case.
use Rattle.std.proofs.Common.{◌≡◌, ◌≢◌, ℕ, arith}
use Rattle.std.proofs.lemmas.Bool.Decides.{nat_tests}
use Rattle.ygm_route.specs.declared.scheme.Scheme.{Scheme}
use Rattle.ygm_route.specs.declared.scheme.Scheme.TheVariants.{Direct, Nr, Nlnr}
use Rattle.ygm_route.specs.Layout.{Shape, node, core, rank_at}
use Rattle.ygm_route.specs.Hop.{hop, gateway}

module _ (layout : Shape) (here to : ℕ) where
  pub hop-near : (scheme : Scheme) → node layout here ≡ node layout to → hop layout scheme here to ≡ to
  unfolding hop
  hop-near scheme same = grind (arith, nat_tests)

  pub hop-direct : hop layout Direct here to ≡ to
  unfolding hop
  hop-direct = grind (arith, nat_tests)

  -- over the network on one's own core
  pub hop-nr : node layout here ≢ node layout to → hop layout Nr here to ≡ rank_at layout (node layout to) (core layout here)
  unfolding hop
  hop-nr far = grind (arith, nat_tests)

  -- over the network from the gateway
  pub hop-nlnr_out : node layout here ≢ node layout to → core layout here ≡ gateway layout here to → hop layout Nlnr here to ≡ rank_at layout (node layout to) (gateway layout here to)
  unfolding hop
  hop-nlnr_out far is_gateway = grind (arith, nat_tests)

  -- to the gateway
  pub hop-nlnr_in : node layout here ≢ node layout to → core layout here ≢ gateway layout here to → hop layout Nlnr here to ≡ rank_at layout (node layout here) (gateway layout here to)
  unfolding hop
  hop-nlnr_in far no_gateway = grind (arith, nat_tests)
