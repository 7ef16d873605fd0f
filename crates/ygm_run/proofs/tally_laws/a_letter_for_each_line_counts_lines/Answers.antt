use Rattle.ygm_run.proofs.TallyRun.OwnLetters.{own_letters_count}
use Rattle.ygm_run.proofs.tally_laws.a_letter_for_each_line_counts_lines.Goals as goal

pub returns : goal.returns
returns c = own_letters_count
