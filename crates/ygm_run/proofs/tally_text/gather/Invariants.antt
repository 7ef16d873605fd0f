use Rattle.std.proofs.Common.{◌≡◌, ◌++◌, take}
use Rattle.ygm_run.specs.TallyText.{pairs_of}
use Rattle.ygm_run.proofs.tally_text.gather.Given as goal

-- the first entries of the shard are there
abbrev pub invariant-loop-k : goal.invariant-loop-k
invariant-loop-k l = pairs_of l.entries.items ≡ pairs_of l.fn.entries.items ++ take l.k l.shard
