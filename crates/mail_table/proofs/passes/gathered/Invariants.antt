use Rattle.std.proofs.Common.{◌≡◌, ◌++◌, length}
use Rattle.mail_table.specs.Rule.{logs_of}
use Rattle.mail_table.specs.Seats.{HasLogs, state_of_links}
use Rattle.mail_table.specs.Table.{InOrder, logs_in}
use Rattle.mail_table.proofs.passes.gathered.Given as goal

abbrev pub invariant-loop-pass : goal.invariant-loop-pass
invariant-loop-pass l =
    (l.all.table_id ≡ l.links.table.shared.table_id) × HasLogs l.links.settings (length l.passes.items) (logs_of l.all.me.0.ranks) l.all.me
    × (logs_in l.passes.items ++ logs_of l.all.me.0.ranks ≡ logs_in l.fn.passes.items) × InOrder (state_of_links l.links.table.shared.table_id l.links.settings) l.passes.items

abbrev pub decreases-loop-pass : goal.decreases-loop-pass
decreases-loop-pass l = length l.passes.items
