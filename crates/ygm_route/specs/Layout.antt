-- Ranks on nodes: each node has the same number of cores, and each core runs one rank.
use Rattle.std.specs.Prelude.{◌≡◌, ℕ, ◌+◌, ◌*◌, ◌/◌, ◌%◌, ◌<◌, ◌≤◌}

-- the most ranks that a layout may have
abbrev pub max_ranks : ℕ
max_ranks = 32

-- how many ranks there are, and how many of them each node has
pub record Shape : Type 0 where
  pub ranks : ℕ
  pub cores : ℕ

-- there are ranks, not too many of them, and they fill their nodes
pub record IsLayout (layout : Shape) : Type 0 where
  pub some_rank : 1 ≤ layout.ranks
  pub few_ranks : layout.ranks ≤ max_ranks
  pub some_core : 1 ≤ layout.cores
  pub full_nodes : layout.ranks % layout.cores ≡ 0

-- the node that a rank runs on
abbrev pub node : Shape → ℕ → ℕ
node layout rank = rank / layout.cores

-- the core of its node that a rank runs on
abbrev pub core : Shape → ℕ → ℕ
core layout rank = rank % layout.cores

-- the rank that runs on this core of this node
abbrev pub rank_at : Shape → ℕ → ℕ → ℕ
rank_at layout on_node on_core = on_node * layout.cores + on_core

-- two ranks of a layout
pub record AreRanks (layout : Shape) (from to : ℕ) : Type 0 where
  pub laid_out : IsLayout layout
  pub from_within : from < layout.ranks
  pub to_within : to < layout.ranks
