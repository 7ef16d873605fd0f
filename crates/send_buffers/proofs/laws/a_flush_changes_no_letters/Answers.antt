use Rattle.send_buffers.proofs.Queued.Flushed.{closed_up-open, queued-closed_up}
use Rattle.send_buffers.proofs.laws.a_flush_changes_no_letters.Goals as goal

pub returns-clause-letters : goal.returns-clause-letters
returns-clause-letters c = queued-closed_up

pub returns-clause-none_open : goal.returns-clause-none_open
returns-clause-none_open c = closed_up-open
