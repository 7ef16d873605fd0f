use Rattle.term_barrier.proofs.Carried.Passed.{has_passed, have_left, have_passed, quiet_all}
use Rattle.term_barrier.proofs.carried_laws.ranks_that_carry_all_phases_have_passed.Goals as goal

pub returns-clause-left : goal.returns-clause-left
returns-clause-left g c = have_left g.H.Handler.apply g.H.Handler.start

pub returns-clause-quiet : goal.returns-clause-quiet
returns-clause-quiet g c = λ world barriers own rounds states members posts sound all.
    quiet_all g.H.Handler.apply g.H.Handler.start world barriers own rounds states members posts all sound

pub returns-clause-each : goal.returns-clause-each
returns-clause-each g c = has_passed g.H.Handler.apply g.H.Handler.start

pub returns-clause-all : goal.returns-clause-all
returns-clause-all g c = λ world barriers own rounds states members posts sound all.
    have_passed g.H.Handler.apply g.H.Handler.start world barriers own rounds states members posts all sound
