use Rattle.std.proofs.Common.{◌≤◌}
use Rattle.mail_table.specs.Carrier.{SameCarrier}
use Rattle.mail_table.proofs.tests.send_five.Given as goal

abbrev pub invariant-loop-number : goal.invariant-loop-number
invariant-loop-number l = SameCarrier l.fn.carrier l.carrier × (l.puts ≤ l.number)
