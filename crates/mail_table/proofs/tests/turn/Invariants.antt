use Rattle.mail_table.specs.Carrier.{SameCarrier}
use Rattle.mail_table.proofs.tests.turn.Given as goal

abbrev pub invariant-loop-from : goal.invariant-loop-from
invariant-loop-from l = SameCarrier l.fn.carrier l.carrier
