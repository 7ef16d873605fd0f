use Rattle.term_barrier.proofs.Passed.NothingAfter.{nothing_after}
use Rattle.term_barrier.proofs.laws.nothing_arrives_after_the_last_cut.Goals as goal

pub returns : goal.returns
returns g c = nothing_after
