use Rattle.mail_table.specs.Carrier.{SameCarrier}
use Rattle.mail_table.proofs.tests.take_all.Given as goal

abbrev pub invariant-loop : goal.invariant-loop
invariant-loop l = SameCarrier l.fn.carriers.0 l.first × SameCarrier l.fn.carriers.1 l.second × SameCarrier l.fn.carriers.2 l.third
