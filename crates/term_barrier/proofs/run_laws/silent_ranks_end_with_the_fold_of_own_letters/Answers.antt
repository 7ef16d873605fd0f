use Rattle.term_barrier.proofs.Passed.Silent.{passed_run, silent_contents, silent_end, silent_weight}
use Rattle.term_barrier.proofs.run_laws.silent_ranks_end_with_the_fold_of_own_letters.Goals as goal

pub returns-clause-run : goal.returns-clause-run
returns-clause-run g c = passed_run

pub returns-clause-nothing_after : goal.returns-clause-nothing_after
returns-clause-nothing_after g c = silent_end

pub returns-clause-contents : goal.returns-clause-contents
returns-clause-contents g c = silent_contents

pub returns-clause-weights : goal.returns-clause-weights
returns-clause-weights g c = silent_weight
