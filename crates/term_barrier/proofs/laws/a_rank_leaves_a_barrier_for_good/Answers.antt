use Rattle.term_barrier.proofs.Left.Earlier.{left_earlier}
use Rattle.term_barrier.proofs.Left.Grown.{cut_stays, left_stays}
use Rattle.term_barrier.proofs.laws.a_rank_leaves_a_barrier_for_good.Goals as goal

pub returns-clause-earlier : goal.returns-clause-earlier
returns-clause-earlier c = left_earlier

pub returns-clause-stays : goal.returns-clause-stays
returns-clause-stays c = left_stays

pub returns-clause-cut_stays : goal.returns-clause-cut_stays
returns-clause-cut_stays c = cut_stays
