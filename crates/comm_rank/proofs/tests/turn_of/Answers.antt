use Rattle.std.proofs.Common.{ap}
use Rattle.comm_rank.specs.Rank.{Rank}
use Rattle.comm_rank.proofs.Agrees.MayTurn.{may_turn_data}
use Rattle.comm_rank.proofs.Turns.Outcomes.{data_after}
use Rattle.comm_rank.proofs.tests.turn_of.Goals as goal

pub turn-requires-clause-may_turn : goal.turn-requires-clause-may_turn
turn-requires-clause-may_turn g c = may_turn_data c.args.comm.now _ c.requires.data_alone

pub returns-clause-data_alone : goal.returns-clause-data_alone
returns-clause-data_alone g c = λ going.
    data_after g.H.Handler.apply g.H.Handler.start c.args.comm.now c.turn.new.self (g.P.Post.state c.args.post.now) (g.P.Post.state c.turn.new.post) c.turn.result c.turn.ensures.ended
    (ap (λ (me : Rank _). me.stopped) c.turn.ensures.rank) going c.requires.data_alone
