use Rattle.std.proofs.Common.{sym, ◌∙◌}
use Rattle.world_core.specs.Plain.{state_of}
use Rattle.comm_rank.proofs.Rank.Same.{worked_same}
use Rattle.term_barrier.proofs.tests.ranks.Standing.{stands_turned}
use Rattle.term_barrier.proofs.tests.ranks.Member.turn.Goals as goal

pub returns-clause-stands : goal.returns-clause-stands
returns-clause-stands g c = λ going.
    let me = c.args.self.now.comm in
    let now = c.turn.new.self in
    let before = state_of c.args.links.now in
    let stands = c.requires.stands (sym c.is_stopped.ensures ∙ c.if-is_stopped.false) in
    stands_turned g.H.Handler.apply g.H.Handler.start c.args.self.now.barrier me before stands now (state_of c.turn.new.post) c.in_ok-turn.field-0
    (worked_same me now _ c.turn.ensures.rank) c.in_ok-turn.ensures.ended
