use Rattle.std.proofs.Common.{true, [], Some, None, inl, inr, sym, ap, ◌∙◌}
use Rattle.std.proofs.lemmas.Result.{err_from_is_err_and}
use Rattle.ygm_run.specs.RankJobs.{JobState, KeepsJob}
use Rattle.ygm_run.proofs.Inputs.IsRest.{rest_none}
use Rattle.ygm_run.proofs.RankJobs.Polled.{gone_on, polled_once}
use Rattle.ygm_run.proofs.RankJobs.Read.{full_file, in_job_read, in_job_without, keeps_read, none_or_some}
use Rattle.ygm_run.proofs.job.Job.turn.Goals as goal

pub returns-then-inside-clause-turned : goal.returns-then-inside-clause-turned
returns-then-inside-clause-turned g c =
    let left = g.S.Source.left in
    let faults = g.S.Source.faults in
    let job = c.args.self.now in
    let one = c.args.comm.now in
    let me = c.wait.new.comm in
    let old = c.args.barrier.now in
    let new = c.wait.new.barrier in
    let before = g.P.Post.state c.args.post.now in
    let after = g.P.Post.state c.wait.new.post in
    let waits = c.wait.ensures in
    let inside = sym c.inside.ensures ∙ c.if-inside.true in
    elim (none_or_some c.args.src) [
      | inl is ↦ rw is (λ content was. polled_once left faults content job old new one me before after None c.wait.result inside (waits.kept content job (Some [])) waits.step waits.never_full was)
      | inr (src, is) ↦ rw is (λ content was. polled_once left faults content job old new one me before after (Some src.now) c.wait.result inside (waits.kept content job (left src.now)) waits.step waits.never_full was)
    ]

pub returns-then-inside-clause-rest : goal.returns-then-inside-clause-rest
returns-then-inside-clause-rest g c = elim (none_or_some c.args.src) [
  | inl is ↦ rw is (rest_none _)
  | inr (src, is) ↦ rw is (rest_none _)
]

-- a rank without a file

pub returns-in_default-clause-turned : goal.returns-in_default-clause-turned
returns-in_default-clause-turned g c =
    let left = g.S.Source.left in
    let faults = g.S.Source.faults in
    let job = c.args.self.now in
    let me = c.go_on.new.comm in
    let start = c.args.barrier.now in
    let before = g.P.Post.state c.args.post.now in
    let after = g.P.Post.state c.go_on.new.post in
    let gone = c.go_on.ensures in
    let outside = sym c.inside.ensures ∙ c.if-inside.false in
    rw c.in_default.is (λ content was.
    gone_on left faults content job me start c.go_on.new.barrier after None true c.go_on.result (λ barrier. KeepsJob content job me barrier after (Some []))
    (gone.kept content job (Some []) was.keeps) gone.step gone.never_full (in_job_without left faults content job c.args.comm.now me start before after outside was))

-- a turn of the reader

pub returns-in_err-read_on-clause-turned : goal.returns-in_err-read_on-clause-turned
returns-in_err-read_on-clause-turned g c =
    let fault = err_from_is_err_and c.from_residual.result c.from_residual.ensures.1 in
    rw c.in-Some.is (rw (fault.1, fault.2) (λ content was.
    full_file content c.args.self.now c.args.comm.now c.args.barrier.now (g.P.Post.state c.args.post.now) (g.S.Source.left c.in-Some.source.now) was.keeps c.in_err-read_on.field-0.0 c.in_err-read_on.ensures.full))

pub returns-in_err-read_on-clause-rest : goal.returns-in_err-read_on-clause-rest
returns-in_err-read_on-clause-rest g c = rw c.in-Some.is c.read_on.ensures.rest

pub returns-clause-turned : goal.returns-clause-turned
returns-clause-turned g c =
    let left = g.S.Source.left in
    let faults = g.S.Source.faults in
    let old = c.args.self.now in
    let new = c.read_on.new.self in
    let one = c.args.comm.now in
    let mid = c.read_on.new.comm in
    let me = c.go_on-2.new.comm in
    let start = c.args.barrier.now in
    let before = g.P.Post.state c.args.post.now in
    let after = g.P.Post.state c.go_on-2.new.post in
    let source = c.in-Some.source.now in
    let now = c.read_on.new.source in
    let outside = sym c.inside.ensures ∙ c.if-inside.false in
    let on = c.in_ok-read_on.ensures.read in
    let agrees = c.in_ok-read_on.ensures.agrees in
    let gone = c.go_on-2.ensures in
    let is_done = c.done.ensures ∙ ap (λ (job : JobState). job.reader.done) c.self.view_is in
    rw c.in-Some.is (λ content was.
    gone_on left faults content new me start c.go_on-2.new.barrier after (Some now) c.done.result c.go_on-2.result (λ barrier. KeepsJob content new me barrier after (left now))
    (gone.kept content new (left now) (keeps_read left faults content old new one mid start before source now outside on agrees was)) gone.step gone.never_full
    (in_job_read left faults content old new one mid start before source now outside on agrees was me after c.done.result is_done))

pub returns-clause-rest : goal.returns-clause-rest
returns-clause-rest g c = rw c.in-Some.is c.read_on.ensures.rest
