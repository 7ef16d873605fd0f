use Rattle.mail_table.specs.Carrier.{SameCarrier}
use Rattle.mail_table.proofs.tests.send_at_last.Given as goal

abbrev pub invariant-loop : goal.invariant-loop
invariant-loop l = SameCarrier l.fn.carrier l.carrier
