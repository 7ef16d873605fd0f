-- The rank on a core of a node: which node and core it runs on, and that it is a rank of the layout.
use Rattle.std.proofs.Common.{◌≡◌, ◌≢◌, ℕ, ◌+◌, ◌*◌, ◌/◌, ◌%◌, ◌<◌, ap, arith}
use Rattle.std.proofs.lemmas.Nat.{div-mul-add, mod-mul-add, div-add-mod', mul-add-lt, div_below, mod_below}
use Rattle.ygm_route.specs.Layout.{Shape, IsLayout, node, core, rank_at}

module _ (layout : Shape) where
  pub node-rank_at : (on_node on_core : ℕ) → on_core < layout.cores → node layout (rank_at layout on_node on_core) ≡ on_node
  node-rank_at on_node on_core h = div-mul-add on_node layout.cores on_core h

  pub core-rank_at : (on_node on_core : ℕ) → on_core < layout.cores → core layout (rank_at layout on_node on_core) ≡ on_core
  core-rank_at on_node on_core h = mod-mul-add on_node layout.cores on_core h

  pub rank_at-node-core : (r : ℕ) → rank_at layout (node layout r) (core layout r) ≡ r
  rank_at-node-core r = div-add-mod' r layout.cores

  pub apart_by_node : (a b : ℕ) → node layout a ≢ node layout b → a ≢ b
  apart_by_node a b ne e = ne (ap (λ x. x / layout.cores) e)

  pub apart_by_core : (a b : ℕ) → core layout a ≢ core layout b → a ≢ b
  apart_by_core a b ne e = ne (ap (λ x. x % layout.cores) e)

  pub core_within : IsLayout layout → (r : ℕ) → core layout r < layout.cores
  core_within l r = mod_below r layout.cores l.some_core

  -- a rank on the node of a rank
  pub rank_at_within : IsLayout layout → (r on_core : ℕ) → r < layout.ranks → on_core < layout.cores → rank_at layout (node layout r) on_core < layout.ranks
  rank_at_within l r on_core h c =
      let whole : layout.ranks / layout.cores * layout.cores + layout.ranks % layout.cores ≡ layout.ranks = div-add-mod' layout.ranks layout.cores in
      let full : layout.ranks / layout.cores * layout.cores ≡ layout.ranks = omega (arith, l.full_nodes) in
      let some : 0 < layout.cores = omega (arith, l.some_core) in
      let below : node layout r < layout.ranks / layout.cores = div_below r layout.cores (layout.ranks / layout.cores) some (omega arith) in
      let fits : rank_at layout (node layout r) on_core < layout.cores * (layout.ranks / layout.cores) = mul-add-lt (node layout r) layout.cores on_core (layout.ranks / layout.cores) below c in
      omega arith
