-- Where a rank sends what is for another rank.
use Rattle.std.specs.Prelude.{ℕ, ◌+◌, ◌%◌, ◌==◌, if◌then◌else◌}
use Rattle.ygm_route.specs.declared.scheme.Scheme.{Scheme}
use Rattle.ygm_route.specs.declared.scheme.Scheme.TheVariants.{Direct, Nr, Nlnr}
use Rattle.ygm_route.specs.Layout.{Shape, node, core, rank_at}

-- the core that carries what goes between two nodes
abbrev pub gateway : Shape → ℕ → ℕ → ℕ
gateway layout here to = (node layout here + node layout to) % layout.cores

-- the next hop to a rank of another node
abbrev pub remote_hop : Shape → Scheme → ℕ → ℕ → ℕ
remote_hop layout Direct here to = to
remote_hop layout Nr here to = rank_at layout (node layout to) (core layout here)
remote_hop layout Nlnr here to =
    if core layout here == gateway layout here to
    then rank_at layout (node layout to) (gateway layout here to)
    else rank_at layout (node layout here) (gateway layout here to)

-- the next hop: a rank of one's own node is reached at once
unfoldable pub hop : Shape → Scheme → ℕ → ℕ → ℕ
hop layout scheme here to =
    if node layout here == node layout to then to else remote_hop layout scheme here to
