use Rattle.ygm_run.proofs.TallyText.Table.{text_of_permutation}
use Rattle.ygm_run.proofs.tally_text.order_is_free.Goals as goal

pub returns : goal.returns
returns c = text_of_permutation
