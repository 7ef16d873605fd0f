use Rattle.ygm_run.proofs.TallyRun.Shards.{counts_of_tally, text_of_tally}
use Rattle.ygm_run.proofs.tally_laws.shards_have_the_counts_of_all_lines.Goals as goal

pub returns-clause-counts : goal.returns-clause-counts
returns-clause-counts c = counts_of_tally

pub returns-clause-text : goal.returns-clause-text
returns-clause-text c = text_of_tally
