use Rattle.std.proofs.Common.{◌≡◌}
use Rattle.send_buffers.proofs.tests.handed_out.Given as goal

abbrev pub invariant-loop : goal.invariant-loop
invariant-loop l = l.held.layout.ranks ≡ 8
