use Rattle.std.proofs.Common.{◌≡◌, length}
use Rattle.std.specs.List.{list_any}
use Rattle.ygm_run.specs.CommandLine.{options_of, passes}
use Rattle.ygm_run.specs.Words.{texts_of}
use Rattle.ygm_run.proofs.words.any_option.Given as goal

-- no option before these passes
abbrev pub invariant-loop-name : goal.invariant-loop-name
invariant-loop-name l = list_any (passes l.test) (options_of (texts_of l.fn.words)) ≡ list_any (passes l.test) (options_of (texts_of l.rest))

abbrev pub decreases-loop-name : goal.decreases-loop-name
decreases-loop-name l = length l.rest
