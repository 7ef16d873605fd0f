use Rattle.std.proofs.Common.{◌≡◌, flat_map, take}
use Rattle.ygm_run.specs.TallyText.{pairs_of}
use Rattle.ygm_run.proofs.tally_text.text_of_shards.Given as goal

-- what the first shards have is there
abbrev pub invariant-loop-shard : goal.invariant-loop-shard
invariant-loop-shard l = pairs_of l.entries.items ≡ flat_map (λ shard. shard) (take l.shard-index l.shards)
