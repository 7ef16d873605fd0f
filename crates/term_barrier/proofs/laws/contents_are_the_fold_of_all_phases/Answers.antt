use Rattle.term_barrier.proofs.Passed.Folded.{contents_folded}
use Rattle.term_barrier.proofs.laws.contents_are_the_fold_of_all_phases.Goals as goal

pub returns : goal.returns
returns g c = contents_folded g.H.Handler.apply g.H.Handler.start
