use Rattle.mail_table.specs.Table.{IsPassOf}
use Rattle.mail_table.proofs.tests.look.Given as goal

abbrev pub invariant-loop : goal.invariant-loop
invariant-loop l = IsPassOf l.table l.pass
