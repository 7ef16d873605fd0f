use Rattle.std.proofs.Common.{rules}
use Rattle.mail_table.proofs.Seats.Passes.{pass_after_take}
use Rattle.mail_table.proofs.table.MailTable.take.Goals as goal

pub invariant_of-pass-2 : goal.invariant_of-pass-2
invariant_of-pass-2 c =
    let old = c.pass.inside in
    pass_after_take old.rank c.index-made.result.now c.args.from old.puts.items old.takes.items c.in_ok-batch.batch old.seat.me c.take_at.new.seat.me c.pass.invariant (search rules) c.index-made.ensures c.in_ok-batch.ensures.took
