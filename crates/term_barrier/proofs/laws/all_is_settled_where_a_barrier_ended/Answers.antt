use Rattle.term_barrier.proofs.Left.Known.{left_ends}
use Rattle.term_barrier.proofs.Served.Offspring.{settled_cut}
use Rattle.term_barrier.proofs.laws.all_is_settled_where_a_barrier_ended.Goals as goal

pub returns : goal.returns
returns g c = λ apply start world rank barrier round sound left served.
    settled_cut apply start world barrier round sound (left_ends world sound rank barrier round left) served
