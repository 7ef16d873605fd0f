use Rattle.term_barrier.proofs.Left.Known.{known_is_so, left_ends}
use Rattle.term_barrier.proofs.laws.what_a_rank_was_told_is_so.Goals as goal

pub returns-clause-complete : goal.returns-clause-complete
returns-clause-complete c = λ world rank q sound known. (known_is_so world sound rank q known).0

pub returns-clause-sums : goal.returns-clause-sums
returns-clause-sums c = λ world rank q sound known. (known_is_so world sound rank q known).1

pub returns-clause-left : goal.returns-clause-left
returns-clause-left c = λ world rank barrier round sound left. left_ends world sound rank barrier round left
