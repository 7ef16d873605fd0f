-- The outcomes of calls of plain links: those of any post, and what these links show in addition.
use Rattle.std.specs.Prelude.{◌≡◌, ℕ, ◌<◌, true, false, List, [], ◌∷◌, ◌++◌}
use Rattle.msg_codec.specs.declared.letter.Letter.{Letter}
use Rattle.world_core.specs.Plain.{Plain, is_full, state_of}
use Rattle.world_core.specs.Post.{PutDone, PutFoundFull, PutHadNoMemory, SawStop, TookBatch, TookNone}
use Rattle.rising_counts.specs.Rising.{next_count}
use Rattle.world_core.specs.World.{link}

-- the link wasn't full, and the batch is its last
pub record LinkGained (here to : ℕ) (batch : List Letter) (old new : Plain) : Type 0 where
  pub post : PutDone here to batch (state_of old) (state_of new)
  pub room : is_full old here to ≡ false
  pub last : link new.world here to ≡ link old.world here to ++ batch ∷ []

-- the link was full, and its count of fulls has one more
pub record LinkWasFull (here to : ℕ) (old new : Plain) : Type 0 where
  pub post : PutFoundFull here to (state_of old) (state_of new)
  pub full : is_full old here to ≡ true
  pub count : (state_of new).fulls to ≡ next_count ((state_of old).fulls to)

-- the link wasn't full, and there was no memory
pub record LinkHadNoMemory (here to : ℕ) (old new : Plain) : Type 0 where
  pub post : PutHadNoMemory here (state_of old) (state_of new)
  pub room : is_full old here to ≡ false

-- the link lost its oldest batch and no other
pub record LinkLost (here from : ℕ) (batch : List Letter) (old new : Plain) : Type 0 where
  pub post : TookBatch here from batch (state_of old) (state_of new)
  pub oldest : link old.world from here ≡ batch ∷ link new.world from here

-- the link was empty, and its count of misses has one more
pub record LinkWasEmpty (here from : ℕ) (old new : Plain) : Type 0 where
  pub post : TookNone here from (state_of old) (state_of new)
  pub empty : link old.world from here ≡ []
  pub count : (state_of new).misses from ≡ next_count ((state_of old).misses from)

-- some rank had raised the stop, and the count of halts has one more
pub record StopWasRaised (old new : Plain) : Type 0 where
  pub post : SawStop (state_of old) (state_of new)
  pub raised : (rank : ℕ) × (rank < old.world.layout.ranks) × ((state_of old).raised rank ≡ true)
  pub count : (state_of new).halts ≡ next_count (state_of old).halts
