use Rattle.std.proofs.Common.{◌≤◌, arith}
use Rattle.world_core.specs.Limits.{most_arrived}
use Rattle.comm_rank.specs.Rank.{local_of}
use Rattle.term_barrier.specs.Barriers.{HasTotalsDue, round_sums}
use Rattle.term_barrier.proofs.Barriers.Room.{few_first}
use Rattle.term_barrier.proofs.Puts.Moved.{few_sums}
use Rattle.term_barrier.proofs.barrier.Barrier.put_totals.Goals as goal

pub has_totals_due-requires : goal.has_totals_due-requires
has_totals_due-requires g c =
    let post = g.P.Post.state c.args.post.now in
    let me = c.args.comm.now in
    let range = c.holds.ensures.in_range in
    let stands = c.requires.stands in
    record { few = few_first c.args.self.now me.controls (local_of me (post.log me.here)) range stands.belongs.agrees.modest stands.agrees (omega (arith, range.within)) }

pub round_sums-sums-requires-clause-few : goal.round_sums-sums-requires-clause-few
round_sums-sums-requires-clause-few g c =
    let due : HasTotalsDue c.args.self.now = c.has_totals_due.ensures.due c.if-not-has_totals_due.false in
    let few : (round_sums c.args.self.now).sent ≤ most_arrived =
    (few_sums g.H.Handler.apply g.H.Handler.start c.args.self.now c.args.comm.now (g.P.Post.state c.args.post.now)
    c.requires.stands c.holds.ensures.in_range c.requires.all_handed due.every).0 in
    few

pub round_sums-sums-requires-clause-few_run : goal.round_sums-sums-requires-clause-few_run
round_sums-sums-requires-clause-few_run g c =
    let due : HasTotalsDue c.args.self.now = c.has_totals_due.ensures.due c.if-not-has_totals_due.false in
    let few : (round_sums c.args.self.now).run ≤ most_arrived =
    (few_sums g.H.Handler.apply g.H.Handler.start c.args.self.now c.args.comm.now (g.P.Post.state c.args.post.now)
    c.requires.stands c.holds.ensures.in_range c.requires.all_handed due.every).1 in
    few
