use Rattle.std.proofs.Common.{rules}
use Rattle.mail_table.proofs.Seats.Passes.{pass_after_put}
use Rattle.mail_table.proofs.table.MailTable.put.Goals as goal

pub invariant_of-pass : goal.invariant_of-pass
invariant_of-pass c =
    let old = c.pass.inside in
    pass_after_put old.rank c.index-made.result.now c.args.to old.puts.items old.takes.items c.args.batch old.seat.me c.put_at.new.seat.me c.pass.invariant (search rules) c.index-made.ensures (search rules)
