use Rattle.ygm_run.specs.BadLines.{tally_wrong}
use Rattle.ygm_run.specs.Job.{lines_of_each}
use Rattle.ygm_run.specs.TallyText.{tally_text}
use Rattle.ygm_run.proofs.Verdict.FirstBad.{verdict_bad, verdict_text}
use Rattle.ygm_run.proofs.verdict_laws.the_verdict_is_the_lowest_bad_line_or_the_text.Goals as goal

pub returns-clause-bad : goal.returns-clause-bad
returns-clause-bad c = λ files. verdict_bad tally_wrong files (tally_text (lines_of_each files))

pub returns-clause-text : goal.returns-clause-text
returns-clause-text c = λ files. verdict_text tally_wrong files (tally_text (lines_of_each files))
