use Rattle.std.proofs.Common.{None}
use Rattle.ygm_run.specs.declared.ranks.RankRun.{RankRun}
use Rattle.ygm_run.proofs.RankRuns.Turned.{in_job_alike, run_by_turn, turned_alike}
use Rattle.ygm_run.proofs.ranks.RankRun.turn.Goals as goal

pub returns-in-Some-clause-turned : goal.returns-in-Some-clause-turned
returns-in-Some-clause-turned g c =
    let did = c.turn-turned in
    let after : RankRun = record c.args.self.now { job = c.turn-turned.new.self; comm = c.turn-turned.new.comm; barrier = c.turn-turned.new.barrier } in
    rw c.in-Some.is (λ content was.
    run_by_turn g.S.Source.left g.S.Source.faults content after c.take_in.new.self did.result (g.P.Post.state did.new.post) (g.P.Post.state c.take_in.new.post) _
    c.take_in.ensures.ended c.requires.going c.take_in.ensures.unchanged (did.ensures.turned content was))

pub returns-in-Some-clause-rest : goal.returns-in-Some-clause-rest
returns-in-Some-clause-rest g c = rw c.in-Some.is c.turn-turned.ensures.rest

pub returns-in-None-clause-turned : goal.returns-in-None-clause-turned
returns-in-None-clause-turned g c =
    let left = g.S.Source.left in
    let faults = g.S.Source.faults in
    let before : RankRun = c.args.self.now in
    let did = c.turn-turned-in-None in
    let took = c.take_in-in-None in
    let after : RankRun = record c.args.self.now { job = c.turn-turned-in-None.new.self; comm = c.turn-turned-in-None.new.comm; barrier = c.turn-turned-in-None.new.barrier } in
    rw c.in-None.is (λ content was.
    run_by_turn left faults content after took.new.self did.result (g.P.Post.state did.new.post) (g.P.Post.state took.new.post) None
    took.ensures.ended c.requires.going took.ensures.unchanged
    (turned_alike _ _ left faults content after.job after.comm after.barrier (g.P.Post.state did.new.post) did.result
    (did.ensures.turned content (in_job_alike left faults _ _ content before.job before.comm before.barrier (g.P.Post.state c.args.post.now) was))))
