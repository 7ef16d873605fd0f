-- What is settled where a barrier ended.
use Rattle.std.specs.Prelude.{◌≡◌, ℕ, ◌<◌}
use Rattle.list_facts.specs.Sublist.{IsSublist}
use Rattle.world_core.specs.Pairs.{arrived, of_pair, pair_put, pair_taken}
use Rattle.world_core.specs.Wave.{cut}
use Rattle.world_core.specs.World.{Logs}
use Rattle.comm_rank.specs.Fold.{Applies, handed_from}

-- At the cut of a round all is settled. The letters from a rank to a rank that were put before the cut arrived before it,
-- each once and in order, and no others did. Whatever the handler of a rank gave for a rank, by letters that arrived before
-- the cut, is among what arrived there from that rank before the cut, in order.
pub record IsSettledCut {C : Type 0} (apply : Applies C) (start : ℕ → C) (world : Logs) (q : ℕ) : Type 0 where
  pub letters : (from to : ℕ) → pair_put from to (cut world q from) ≡ pair_taken from to (cut world q to)
  pub offspring : (from to : ℕ) → from < world.layout.ranks →
      IsSublist
      (of_pair from to (handed_from apply from world.layout.ranks (start from) (arrived from (cut world q from))))
      (of_pair from to (arrived to (cut world q to)))
