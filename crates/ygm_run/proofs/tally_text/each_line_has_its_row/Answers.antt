use Rattle.ygm_run.specs.TallyText.{distinct_items}
use Rattle.ygm_run.proofs.TallyText.DistinctItems.{pairs_from_rises, Rises-distinct_items, Contains-distinct_items}
use Rattle.ygm_run.proofs.tally_text.each_line_has_its_row.Goals as goal

pub returns-clause-rising : goal.returns-clause-rising
returns-clause-rising c = λ lines. pairs_from_rises (distinct_items lines) (Rises-distinct_items lines)

pub returns-clause-lines : goal.returns-clause-lines
returns-clause-lines c = Contains-distinct_items
