use Rattle.std.proofs.Common.{◌≡◌, drop, find}
use Rattle.ygm_run.specs.CommandLine.{command_in}
use Rattle.ygm_run.specs.Words.{holds, refusals}
use Rattle.ygm_run.proofs.words.Command.refusal.Given as goal

-- none of the refusals before this one holds
abbrev pub invariant-loop-kind : goal.invariant-loop-kind
invariant-loop-kind l = find (holds (command_in l.self)) refusals ≡ find (holds (command_in l.self)) (drop l.kind-index refusals)
