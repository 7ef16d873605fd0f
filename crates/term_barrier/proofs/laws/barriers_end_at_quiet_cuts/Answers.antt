use Rattle.term_barrier.proofs.Left.QuietCuts.{cut_part, cut_within, cuts_in_order, ended_cut, quiet_cuts}
use Rattle.term_barrier.proofs.laws.barriers_end_at_quiet_cuts.Goals as goal

pub returns-clause-quiet : goal.returns-clause-quiet
returns-clause-quiet c = ended_cut

pub returns-clause-part : goal.returns-clause-part
returns-clause-part c = cut_part

pub returns-clause-within : goal.returns-clause-within
returns-clause-within c = cut_within

pub returns-clause-cuts : goal.returns-clause-cuts
returns-clause-cuts c = quiet_cuts

pub returns-clause-order : goal.returns-clause-order
returns-clause-order c = cuts_in_order
