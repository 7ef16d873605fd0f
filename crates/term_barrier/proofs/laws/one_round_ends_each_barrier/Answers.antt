use Rattle.term_barrier.proofs.Left.Known.{left_ends}
use Rattle.term_barrier.proofs.Left.OneRound.{one_round, rounds_rise}
use Rattle.term_barrier.proofs.laws.one_round_ends_each_barrier.Goals as goal

pub returns-clause-one : goal.returns-clause-one
returns-clause-one c = one_round

pub returns-clause-same : goal.returns-clause-same
returns-clause-same c = λ world one other barrier q p sound left also.
    one_round world barrier q p (left_ends world sound one barrier q left) (left_ends world sound other barrier p also)

pub returns-clause-rise : goal.returns-clause-rise
returns-clause-rise c = rounds_rise
