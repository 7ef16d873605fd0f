use Rattle.std.proofs.Common.{◌≡◌, ◌∙◌, ap, refl, sym, subst, true}
use Rattle.std.proofs.lemmas.Result.{IfErr-weaker, IfOk-weaker}
use Rattle.comm_rank.specs.Agrees.{MayTurn}
use Rattle.comm_rank.specs.Rank.{Rank}
use Rattle.comm_rank.proofs.Rank.Same.{same_rank}
use Rattle.comm_rank.proofs.Turns.Faults.{unless_stopped}
use Rattle.comm_rank.proofs.Turns.Outcomes.{ended_since, log_at, was_cut_stopped}
use Rattle.comm_rank.proofs.comm.Comm.turn.Goals as goal

pub work-ended-requires-clause-may_turn : goal.work-ended-requires-clause-may_turn
work-ended-requires-clause-may_turn g c =
    let old = c.args.self.now in
    let here = ap (λ (me : Rank _). me.here) c.self.view_is in
    let same = log_at c.self.inside.here old.here (g.P.Post.state c.args.post.now).log (g.P.Post.state c.stopped.new.self).log here c.stopped.ensures.keeps.log in
    subst (λ log. MayTurn old log) (sym same) c.requires.may_turn

pub returns-else-is_err-clause-ended : goal.returns-else-is_err-clause-ended
returns-else-is_err-clause-ended g c =
    let old = c.args.self.now in
    let here = ap (λ (me : Rank _). me.here) c.self.view_is in
    IfOk-weaker c.work-ended.result _ _
    (ended_since g.H.Handler.apply g.H.Handler.start old c.work-ended.new.self c.self.inside.here (g.P.Post.state c.args.post.now) (g.P.Post.state c.stopped.new.self) (g.P.Post.state c.work-ended.new.post) here c.stopped.ensures.keeps
    (c.if-stopped.ensures.saw_none refl).halts) c.work-ended.ensures.ended

pub returns-then-is_err-clause-failed : goal.returns-then-is_err-clause-failed
returns-then-is_err-clause-failed g c =
    let state = g.P.Post.state in
    let old = c.args.self.now in
    let mid = c.work-ended.new.self in
    let before = state c.args.post.now in
    let looked = state c.stopped.new.self in
    let after = state c.work-ended.new.post in
    let now = state c.raise_stop.new.self in
    let here : c.self.inside.here ≡ old.here = ap (λ (me : Rank _). me.here) c.self.view_is in
    let still : c.self-2.inside.here ≡ old.here = ap (λ (me : Rank _). me.here) c.self-2.view_is ∙ (same_rank old mid c.work-ended.ensures.rank).here in
    let first : looked.log old.here ≡ before.log old.here = log_at c.self.inside.here old.here before.log looked.log here c.stopped.ensures.keeps.log in
    let last : now.log old.here ≡ after.log old.here = log_at c.self-2.inside.here old.here after.log now.log still c.raise_stop.ensures.keeps.log in
    IfErr-weaker c.work-ended.result _ _
    (λ fault cut. unless_stopped fault (record {
      was_cut = was_cut_stopped g.H.Handler.apply old _ mid _ _ _ _ c.self-2.view_is first last fault cut;
      raises_the_stop = subst (λ h. now.raised h ≡ true) still c.raise_stop.ensures.raised.raised;
      halts = c.raise_stop.ensures.keeps.halts ∙ c.work-ended.ensures.keeps.halts ∙ (c.if-stopped.ensures.saw_none refl).halts;
    })) c.work-ended.ensures.cut
