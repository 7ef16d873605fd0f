use Rattle.std.proofs.Common.{ap}
use Rattle.mail_table.specs.Table.{PassState}
use Rattle.mail_table.proofs.Carrier.Fresh.{before_fresh, last_carries, last_fresh}
use Rattle.mail_table.proofs.tests.next_carrier.Goals as goal

pub invariant_of-result : goal.invariant_of-result
invariant_of-result c =
    last_carries c.args.table.now c.args.passes.now.items c.pop.new.self.items c.in_ok-pass.pass c.in_ok-pass.ensures.items c.requires.fresh c.args.layout c.args.scheme c.requires.few c.requires.layout c.requires.scheme

pub returns-clause-fresh : goal.returns-clause-fresh
returns-clause-fresh c = before_fresh c.args.table.now c.args.passes.now.items c.pop.new.self.items c.in_ok-pass.pass c.in_ok-pass.ensures.items c.requires.fresh

pub returns-clause-pass : goal.returns-clause-pass
returns-clause-pass c =
    let is = last_fresh c.args.table.now c.args.passes.now.items c.pop.new.self.items c.in_ok-pass.pass c.in_ok-pass.ensures.items c.requires.fresh in
    record { table_is = ap (λ (p : PassState). p.table) is; settings_are = ap (λ (p : PassState). p.settings) is }

pub returns-clause-rank : goal.returns-clause-rank
returns-clause-rank c =
    ap (λ (p : PassState). p.rank) (last_fresh c.args.table.now c.args.passes.now.items c.pop.new.self.items c.in_ok-pass.pass c.in_ok-pass.ensures.items c.requires.fresh)
