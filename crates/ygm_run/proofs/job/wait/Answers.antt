use Rattle.ygm_run.proofs.RankJobs.Polled.{keeps_left, keeps_waited}
use Rattle.ygm_run.proofs.job.wait.Goals as goal

pub returns-in-Left-clause-kept : goal.returns-in-Left-clause-kept
returns-in-Left-clause-kept g c = λ content job left was.
    keeps_left content job left c.args.barrier.now c.poll.new.self c.args.comm.now c.poll.new.comm (g.P.Post.state c.args.post.now) (g.P.Post.state c.poll.new.post) c.in_ok-poll.ensures.rank
    c.in-Left.barrier c.in-Left.round (rw c.in-Left.is at c.in_ok-poll.ensures.ended) was

pub returns-in-Waiting-clause-kept : goal.returns-in-Waiting-clause-kept
returns-in-Waiting-clause-kept g c = λ content job left was.
    keeps_waited content job left c.args.barrier.now c.poll.new.self c.args.comm.now c.poll.new.comm (g.P.Post.state c.args.post.now) (g.P.Post.state c.poll.new.post) c.in_ok-poll.ensures.rank
    c.in-Waiting.field-0 (rw c.in-Waiting.is at c.in_ok-poll.ensures.ended) was
