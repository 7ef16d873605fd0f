-- What a handler sends while it runs a letter.
use Rattle.std.specs.Prelude.{ℕ, ◌<◌, List}
use Rattle.world_core.specs.Limits.{data_tags}
use Rattle.comm_rank.specs.declared.handler.Outbound.{Outbound}

-- the number of ranks of its world, and the letters so far
pub record Sends : Type 0 where
  pub ranks : ℕ
  pub letters : List Outbound

-- a data letter to a rank of the world
pub record IsData (ranks : ℕ) (sent : Outbound) : Type 0 where
  pub destination : sent.to < ranks
  pub tag : sent.tag < data_tags
