-- What a rank keeps for its job, and what letters do to it.
use Rattle.std.specs.Prelude.{◌≡◌, ℕ, List, [], refl}
use Rattle.msg_codec.specs.declared.letter.Letter.{Letter}
use Rattle.comm_rank.specs.Fold.{Applies}
use Rattle.comm_rank.specs.declared.handler.Outbound.{Outbound}
use Rattle.bag_set.specs.Bags.{bag_apply}
use Rattle.bag_set.specs.Sets.{set_apply}
use Rattle.counting_set.specs.Counting.{counting_apply}
use Rattle.ygm_jobs.specs.declared.shard.JobShard.{JobShard}
use Rattle.ygm_jobs.specs.declared.shard.JobShard.TheVariants.{Tally, Distinct, Balance}

-- what a container does, in the shard that holds it
abbrev pub in_shard : {C : Type 0} → (C → JobShard) → C × List Outbound → JobShard × List Outbound
in_shard shard done = (shard done.0, done.1)

-- what a letter does: the job's container does what it does with it
abbrev pub shard_apply : Applies JobShard
shard_apply (Tally counts) here ranks l = in_shard Tally (counting_apply counts here ranks l)
shard_apply (Distinct items) here ranks l = in_shard Distinct (set_apply items here ranks l)
shard_apply (Balance items) here ranks l = in_shard Balance (bag_apply items here ranks l)

-- the shard of the same job that has seen no letter
abbrev pub shard_start : JobShard → JobShard
shard_start (Tally counts) = Tally []
shard_start (Distinct items) = Distinct []
shard_start (Balance items) = Balance []

-- running a letter doesn't change the start
pub shard_keeps_start : (shard : JobShard) (here ranks : ℕ) (l : Letter) → shard_start (shard_apply shard here ranks l).0 ≡ shard_start shard
shard_keeps_start (Tally counts) here ranks l = refl
shard_keeps_start (Distinct items) here ranks l = refl
shard_keeps_start (Balance items) here ranks l = refl
