use Rattle.ygm_run.proofs.RankJobs.Read.{keeps_entered}
use Rattle.ygm_run.proofs.RankJobs.Turned.{keeps_turned}
use Rattle.ygm_run.proofs.job.go_on.Goals as goal
use Rattle.ygm_run.proofs.job.go_on.Goals.{then-ended, else-ended}

pub returns-clause-kept : goal.returns-clause-kept
returns-clause-kept g c = λ content job left was.
    let before = g.P.Post.state c.args.post.now in
    keeps_turned content job c.if-ended.comm c.turn.new.self c.if-ended.barrier before (g.P.Post.state c.turn.new.post) c.in_ok-turn.field-0 c.in_ok-turn.ensures.rank c.in_ok-turn.ensures.ended left
    (elim c.if-ended.branch [
      | then-ended w ↦ rw (w.comm-is, w.enter.ensures.unchanged, w.barrier-is, w.enter.ensures.inside) (keeps_entered content job c.args.comm.now c.args.barrier.now before left was)
      | else-ended w ↦ rw (w.comm-is, w.barrier-is) was
    ])
