use Rattle.std.proofs.Common.{◌≡◌, false, ap, ◌∙◌}
use Rattle.std.proofs.lemmas.Result.{IfErr-weaker, IfOk-weaker}
use Rattle.comm_rank.specs.Rank.{Rank}
use Rattle.term_barrier.proofs.Polls.Ended.{keeps_failed, keeps_poll, poll_ended, put_failed, same_going, stands_turned, with_due}
use Rattle.term_barrier.proofs.barrier.Barrier.poll_flushed.Goals as goal

pub after_turn-polled-requires-clause-stands : goal.after_turn-polled-requires-clause-stands
after_turn-polled-requires-clause-stands g c =
    stands_turned g.H.Handler.apply g.H.Handler.start c.args.self.now c.args.comm.now c.turn.new.self (g.P.Post.state c.args.post.now) (g.P.Post.state c.turn.new.post)
    c.in_ok-turn.turn (same_going c.args.comm.now c.turn.new.self c.in_ok-turn.ensures.rank) c.in_ok-turn.ensures.ended c.requires.stands

pub returns-then-is_err-clause-failed : goal.returns-then-is_err-clause-failed
returns-then-is_err-clause-failed g c =
    let going : c.after_turn-polled.new.comm.stopped ≡ false =
    ap (λ (r : Rank g.row.H.Denot). r.stopped) c.after_turn-polled.ensures.after.handed_over ∙ ap (λ (r : Rank g.row.H.Denot). r.stopped) c.in_ok-turn.ensures.rank in
    IfErr-weaker c.after_turn-polled.result _ _
    (λ fault what. put_failed g.H.Handler.apply g.H.Handler.start c.args.self.now c.args.comm.now c.turn.new.self c.after_turn-polled.new.comm
    (g.P.Post.state c.args.post.now) (g.P.Post.state c.turn.new.post) (g.P.Post.state c.after_turn-polled.new.post) (g.P.Post.state c.halt.new.post) c.in_ok-turn.turn
    (same_going c.args.comm.now c.turn.new.self c.in_ok-turn.ensures.rank) c.in_ok-turn.ensures.ended c.after_turn-polled.ensures.after
    c.halt.ensures.raised c.halt.ensures.keeps c.after_turn-polled.new.self fault what.0 what.1 c.after_turn-polled.ensures.stands going c.halt.new.self c.halt.ensures.stopped)
    c.after_turn-polled.ensures.no_memory

pub returns-then-is_err-clause-post : goal.returns-then-is_err-clause-post
returns-then-is_err-clause-post g c =
    keeps_failed g.H.Handler.apply g.H.Handler.start c.args.self.now c.args.comm.now c.turn.new.self c.after_turn-polled.new.comm (g.P.Post.state c.args.post.now) (g.P.Post.state c.turn.new.post)
    (g.P.Post.state c.after_turn-polled.new.post) (g.P.Post.state c.halt.new.post) c.in_ok-turn.turn (same_going c.args.comm.now c.turn.new.self c.in_ok-turn.ensures.rank)
    c.in_ok-turn.ensures.ended c.after_turn-polled.ensures.after c.halt.ensures.raised c.halt.ensures.keeps c.turn.ensures.post

pub returns-else-is_err-clause-ended : goal.returns-else-is_err-clause-ended
returns-else-is_err-clause-ended g c =
    let same = same_going c.args.comm.now c.turn.new.self c.in_ok-turn.ensures.rank in
    let before = g.P.Post.state c.args.post.now in
    IfOk-weaker c.after_turn-polled.result _ _
    (λ answer both. poll_ended g.H.Handler.apply g.H.Handler.start c.args.self.now c.args.comm.now c.turn.new.self before (g.P.Post.state c.turn.new.post)
    c.in_ok-turn.turn same c.in_ok-turn.ensures.ended c.after_turn-polled.new.comm (g.P.Post.state c.after_turn-polled.new.post) c.after_turn-polled.ensures.after
    c.after_turn-polled.new.self answer c.turn.ensures.post c.after_turn-polled.ensures.stands both.1 both.0)
    (with_due c.after_turn-polled.result _ _ (c.after_turn-polled.ensures.answers c.args.comm.now before same c.requires.flushed c.in_ok-turn.ensures.ended) c.after_turn-polled.ensures.due)

pub returns-else-is_err-clause-post : goal.returns-else-is_err-clause-post
returns-else-is_err-clause-post g c =
    keeps_poll g.H.Handler.apply g.H.Handler.start c.args.self.now c.args.comm.now c.turn.new.self (g.P.Post.state c.args.post.now) (g.P.Post.state c.turn.new.post)
    c.in_ok-turn.turn (same_going c.args.comm.now c.turn.new.self c.in_ok-turn.ensures.rank) c.in_ok-turn.ensures.ended c.after_turn-polled.new.comm
    (g.P.Post.state c.after_turn-polled.new.post) c.after_turn-polled.ensures.after c.turn.ensures.post
