use Rattle.std.proofs.Common.{◌≡◌, []}
use Rattle.mail_table.specs.Seats.{AreFreshPasses, dealing, state_of_links}
use Rattle.mail_table.proofs.passes.all_passes.Given as goal

abbrev pub invariant-loop-rank : goal.invariant-loop-rank
invariant-loop-rank l =
    (l.others.table_id ≡ l.links.table.shared.table_id) × (l.others.me ≡ (dealing l.links.settings l.rank, [])) × AreFreshPasses (state_of_links l.links.table.shared.table_id l.links.settings) l.rank l.passes.items
