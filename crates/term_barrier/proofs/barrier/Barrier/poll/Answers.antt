use Rattle.std.proofs.Common.{sym, subst}
use Rattle.std.proofs.lemmas.Result.{IfErr-weaker, IfOk-weaker}
use Rattle.comm_rank.specs.Rank.{Rank}
use Rattle.comm_rank.specs.Turns.{KeepsPost}
use Rattle.comm_rank.proofs.Turns.Faults.{if_stopped, unless_stopped_then}
use Rattle.term_barrier.specs.Polls.{PollEnded, PollFailed, Stands}
use Rattle.term_barrier.proofs.Polls.Flushed.{ended_before, failed_before, keeps_before, stands_flushed}
use Rattle.term_barrier.proofs.barrier.Barrier.poll.Goals as goal

pub poll_flushed-requires-clause-stands : goal.poll_flushed-requires-clause-stands
poll_flushed-requires-clause-stands g c =
    let f = c.flush.ensures.closed in
    subst (λ (r : Rank g.row.H.Denot). Stands g.H.Handler.apply g.H.Handler.start c.args.self.now r (g.P.Post.state c.args.post.now)) (sym f.rank)
    (stands_flushed g.H.Handler.apply g.H.Handler.start c.args.comm.now c.flush.new.self.held f.same_letters c.args.self.now (g.P.Post.state c.args.post.now) c.requires.stands)

pub poll_flushed-requires-clause-flushed : goal.poll_flushed-requires-clause-flushed
poll_flushed-requires-clause-flushed g c = λ to within. c.flush.ensures.closed.none_open to

pub returns-clause-ended : goal.returns-clause-ended
returns-clause-ended g c =
    let f = c.flush.ensures.closed in
    let old = c.args.comm.now in
    let before = g.P.Post.state c.args.post.now in
    let after = g.P.Post.state c.poll_flushed.new.post in
    let now = c.poll_flushed.new.self in
    let me = c.poll_flushed.new.comm in
    IfOk-weaker c.poll_flushed.result _ _
    (λ answer e. ended_before g.H.Handler.apply g.H.Handler.start old c.flush.new.self.held f.same_letters c.args.self.now now me before after answer
    (subst (λ (r : Rank g.row.H.Denot). PollEnded g.H.Handler.apply g.H.Handler.start c.args.self.now now r me before after answer) f.rank e)) c.poll_flushed.ensures.ended

pub returns-clause-halted : goal.returns-clause-halted
returns-clause-halted g c =
    let f = c.flush.ensures.closed in
    IfErr-weaker c.poll_flushed.result _ _
    (λ fault h. if_stopped fault (λ both. record { rank = c.flush.new.self; flushed = f; halted = both.0; barrier = both.1 }) h) c.poll_flushed.ensures.halted

pub returns-clause-failed : goal.returns-clause-failed
returns-clause-failed g c =
    let f = c.flush.ensures.closed in
    let old = c.args.comm.now in
    let before = g.P.Post.state c.args.post.now in
    let after = g.P.Post.state c.poll_flushed.new.post in
    let now = c.poll_flushed.new.self in
    let me = c.poll_flushed.new.comm in
    IfErr-weaker c.poll_flushed.result _ _
    (λ fault h. unless_stopped_then fault (λ x. failed_before g.H.Handler.apply g.H.Handler.start old c.flush.new.self.held f.same_letters c.args.self.now now me before after fault
    (subst (λ (r : Rank g.row.H.Denot). PollFailed g.H.Handler.apply g.H.Handler.start c.args.self.now now r me before after fault) f.rank x)) h) c.poll_flushed.ensures.failed

pub returns-clause-post : goal.returns-clause-post
returns-clause-post g c =
    let f = c.flush.ensures.closed in
    let before = g.P.Post.state c.args.post.now in
    let after = g.P.Post.state c.poll_flushed.new.post in
    keeps_before g.H.Handler.apply g.H.Handler.start c.args.comm.now c.flush.new.self.held f.same_letters before after
    (subst (λ (r : Rank g.row.H.Denot). KeepsPost r before after) f.rank c.poll_flushed.ensures.post)
