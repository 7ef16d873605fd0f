use Rattle.ygm_run.proofs.TallyText.DistinctItems.{rises_from_pairs}
use Rattle.ygm_run.proofs.TallyText.Table.{table_is_text}
use Rattle.ygm_run.proofs.tally_text.one_table.Goals as goal

pub returns : goal.returns
returns c = λ files items rising same. table_is_text items files (rises_from_pairs items rising) same
