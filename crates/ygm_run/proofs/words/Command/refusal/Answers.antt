use Rattle.std.proofs.Common.{◌∙◌, sym}
use Rattle.ygm_run.specs.CommandLine.{command_in}
use Rattle.ygm_run.specs.Words.{holds, refusals}
use Rattle.ygm_run.proofs.CommandLine.Accepted.{find_later}
use Rattle.ygm_run.proofs.words.Command.refusal.Goals as goal

pub loop-kind-preserved : goal.loop-kind-preserved
loop-kind-preserved c =
    c.loop-kind.invariant ∙ find_later (holds (command_in c.args.self.now)) refusals c.loop-kind.kind-index _ c.loop-kind-test.true (sym c.holds.ensures ∙ c.if-holds.false)
