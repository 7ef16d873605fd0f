use Rattle.std.proofs.Common.{true, false, refl}
use Rattle.std.proofs.lemmas.Result.{err_from_is_err_and}
use Rattle.term_barrier.proofs.Waited.Kept.{keeps_post_then, same_since_outside, worked_again}
use Rattle.term_barrier.proofs.Waited.Outcomes.{barrier_ended, entered_waits, waited_more}
use Rattle.term_barrier.proofs.barrier.Barrier.barrier.Goals as goal

pub loop-init : goal.loop-init
loop-init g c =
    entered_waits g.H.Handler.apply g.H.Handler.start c.args.self.now c.enter.new.self c.args.comm.now c.enter.new.comm
    (g.P.Post.state c.args.post.now) c.enter.ensures.inside c.enter.ensures.unchanged c.requires.going c.requires.stands

pub returns-in_err-barrier-clause-failed : goal.returns-in_err-barrier-clause-failed
returns-in_err-barrier-clause-failed g c =
    let err = err_from_is_err_and c.from_residual.result c.from_residual.ensures.1 in
    rw (err.1, err.2) (record {
      barrier = c.loop.self;
      rank = c.loop.comm;
      post = g.P.Post.state c.loop.post;
      waited = c.loop.invariant;
      halted = c.in_err-barrier.ensures.halted;
      failed = c.in_err-barrier.ensures.failed;
    })

pub returns-in_err-barrier-clause-rank : goal.returns-in_err-barrier-clause-rank
returns-in_err-barrier-clause-rank g c =
    let err = err_from_is_err_and c.from_residual.result c.from_residual.ensures.1 in
    rw err.1 (worked_again c.args.comm.now c.loop.comm c.poll.new.comm true c.loop.invariant.same_rank c.in_err-barrier.ensures.rank)

pub returns-in_err-barrier-clause-post : goal.returns-in_err-barrier-clause-post
returns-in_err-barrier-clause-post g c =
    let state = g.P.Post.state in
    keeps_post_then c.args.comm.now c.loop.comm (state c.args.post.now) (state c.loop.post) (state c.poll.new.post)
    c.loop.invariant.same_rank c.loop.invariant.keeps c.poll.ensures.post

pub returns-in_err-barrier-clause-barrier : goal.returns-in_err-barrier-clause-barrier
returns-in_err-barrier-clause-barrier g c =
    same_since_outside c.args.self.now c.loop.self c.poll.new.self c.loop.invariant.same c.poll.ensures.barrier

pub returns-in-Left-clause-ended : goal.returns-in-Left-clause-ended
returns-in-Left-clause-ended g c =
    let state = g.P.Post.state in
    let entered = record c.args.self.now { inside = true } in
    barrier_ended g.H.Handler.apply g.H.Handler.start entered c.loop.self c.poll.new.self c.args.comm.now c.loop.comm c.poll.new.comm
    (state c.args.post.now) (state c.loop.post) (state c.poll.new.post) c.loop.invariant c.args.self.now refl c.in-Left.barrier c.in-Left.round
    c.in_ok-barrier.field-0 c.in-Left.is c.in_ok-barrier.ensures.ended

pub returns-in-Left-clause-rank : goal.returns-in-Left-clause-rank
returns-in-Left-clause-rank g c =
    worked_again c.args.comm.now c.loop.comm c.poll.new.comm false c.loop.invariant.same_rank c.in_ok-barrier.ensures.rank

pub returns-in-Left-clause-post : goal.returns-in-Left-clause-post
returns-in-Left-clause-post g c =
    let state = g.P.Post.state in
    keeps_post_then c.args.comm.now c.loop.comm (state c.args.post.now) (state c.loop.post) (state c.poll.new.post)
    c.loop.invariant.same_rank c.loop.invariant.keeps c.poll.ensures.post

pub returns-in-Left-clause-barrier : goal.returns-in-Left-clause-barrier
returns-in-Left-clause-barrier g c =
    same_since_outside c.args.self.now c.loop.self c.poll.new.self c.loop.invariant.same c.poll.ensures.barrier

pub loop-preserved : goal.loop-preserved
loop-preserved g c =
    let state = g.P.Post.state in
    let entered = record c.args.self.now { inside = true } in
    waited_more g.H.Handler.apply g.H.Handler.start entered c.loop.self c.poll.new.self c.args.comm.now c.loop.comm c.poll.new.comm
    (state c.args.post.now) (state c.loop.post) (state c.poll.new.post) c.loop.invariant c.in_default.field-0
    c.poll.ensures.barrier c.in_ok-barrier.ensures.rank c.poll.ensures.post c.in_ok-barrier.field-0 c.in_default.is c.in_ok-barrier.ensures.ended
