use Rattle.comm_rank.proofs.Rank.RanAt.{came_agrees, came_cut}
use Rattle.comm_rank.proofs.laws.what_came_has_run_or_waits.Goals as goal

pub returns-clause-agrees : goal.returns-clause-agrees
returns-clause-agrees g c = came_agrees g.H.Handler.apply g.H.Handler.start

pub returns-clause-cut_off : goal.returns-clause-cut_off
returns-clause-cut_off g c = came_cut g.H.Handler.apply
