use Rattle.std.proofs.Common.{◌≡◌, length}
use Rattle.ygm_run.specs.CommandLine.{options_of}
use Rattle.ygm_run.specs.Words.{has_twice, texts_of}
use Rattle.ygm_run.proofs.words.has_twice.Given as goal

-- no option before these has the name of a later one
abbrev pub invariant-loop-name : goal.invariant-loop-name
invariant-loop-name l = has_twice (options_of (texts_of l.fn.words)) ≡ has_twice (options_of (texts_of l.rest))

abbrev pub decreases-loop-name : goal.decreases-loop-name
decreases-loop-name l = length l.rest
