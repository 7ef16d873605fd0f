use Rattle.std.proofs.Common.{◌≡◌, arith, false, true}
use Rattle.ygm_run.specs.CommandLine.{command_in}
use Rattle.ygm_run.proofs.CommandLine.Accepted.{accepted}
use Rattle.ygm_run.proofs.words.Command.order.Goals as goal

pub overflow_cast-ranks : goal.overflow_cast-ranks
overflow_cast-ranks c =
    let is = accepted (command_in c.args.self) c.requires.accepted in
    omega (arith, c.ranks.ensures, is.laid_out.few_ranks)

pub unreachable-requires : goal.unreachable-requires
unreachable-requires c =
    let is = accepted (command_in c.args.self) c.requires.accepted in
    let ok = c.new.ensures.accepted.1 (rw (c.ranks.ensures, c.cores.ensures) is.laid_out) in
    let e : false ≡ true = rw c.in_default.is at ok in
    cc
