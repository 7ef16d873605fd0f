use Rattle.std.proofs.Common.{◌≡◌, length}
use Rattle.ygm_run.specs.CommandLine.{options_of}
use Rattle.ygm_run.specs.Words.{texts_of, value_of}
use Rattle.ygm_run.proofs.words.value_of.Given as goal

-- no option before these has the name
abbrev pub invariant-loop-other : goal.invariant-loop-other
invariant-loop-other l = value_of l.name (options_of (texts_of l.fn.words)) ≡ value_of l.name (options_of (texts_of l.rest))

abbrev pub decreases-loop-other : goal.decreases-loop-other
decreases-loop-other l = length l.rest
