use Rattle.std.proofs.Common.{ap, ◌∙◌, subst}
use Rattle.std.specs.List.{AllByRecursion}
use Rattle.send_buffers.specs.Buffers.{queued}
use Rattle.ygm_route.specs.Layout.{Shape}
use Rattle.comm_rank.specs.Rank.{Rank, held_letters}
use Rattle.comm_rank.proofs.Rank.SentCount.{GoesBelow, held_below, sum_of_sent}
use Rattle.comm_rank.proofs.comm.Comm.sent_count.Goals as goal

pub returns-clause-sum : goal.returns-clause-sum
returns-clause-sum g c = λ log agrees honest.
    let i = c.self.inside in
    let inside : AllByRecursion (GoesBelow i.layout.ranks) (queued i.held.queues) =
    subst (λ (s : Shape). AllByRecursion (GoesBelow s.ranks) (queued i.held.queues)) c.self.invariant.4.layout_is (held_below i.held c.holds.ensures.routed) in
    let held : AllByRecursion (GoesBelow c.args.self.now.layout.ranks) (held_letters c.args.self.now) =
    subst (λ (me : Rank g.row.H.Denot). AllByRecursion (GoesBelow me.layout.ranks) (held_letters me)) c.self.view_is inside in
    c.count.ensures.value ∙ ap (λ (me : Rank g.row.H.Denot). me.sent_count) c.self.view_is ∙ sum_of_sent g.H.Handler.apply g.H.Handler.start c.args.self.now log held agrees honest
