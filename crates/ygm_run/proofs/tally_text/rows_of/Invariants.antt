use Rattle.std.proofs.Common.{◌≡◌, take}
use Rattle.ygm_run.specs.TallyText.{pairs_of, tally_rows}
use Rattle.ygm_run.proofs.tally_text.rows_of.Given as goal

-- the text so far is the rows of the entries so far
abbrev pub invariant-loop-item : goal.invariant-loop-item
invariant-loop-item l = l.text.items ≡ tally_rows (pairs_of (take l.item-index l.entries))
