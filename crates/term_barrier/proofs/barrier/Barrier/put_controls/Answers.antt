use Rattle.std.proofs.Common.{◌≡◌, inl, inr, None, sym, ap, ◌∙◌, subst}
use Rattle.std.proofs.lemmas.Option.{none-some}
use Rattle.term_barrier.specs.Barriers.{BarrierState}
use Rattle.term_barrier.specs.Polls.{FoundFull}
use Rattle.term_barrier.proofs.Polls.AfterTurn.{due_after, none_from_false}
use Rattle.comm_rank.specs.Rank.{held_letters}
use Rattle.term_barrier.proofs.Puts.Totals.{controls_then}
use Rattle.term_barrier.proofs.barrier.Barrier.put_controls.Goals as goal

pub returns-clause-controls : goal.returns-clause-controls
returns-clause-controls g c =
    controls_then (held_letters c.args.comm.now) c.args.self.now c.put_count.new.self c.put_totals.new.self (g.P.Post.state c.args.post.now)
    (g.P.Post.state c.put_count.new.post) (g.P.Post.state c.put_totals.new.post) c.put_count.ensures.controls c.put_totals.ensures.controls

pub returns-then-is_some-clause-due : goal.returns-then-is_some-clause-due
returns-then-is_some-clause-due g c =
    let layout : c.args.self.now.layout.ranks ≡ c.put_count.new.self.layout.ranks = sym (ap (λ (b : BarrierState). b.layout.ranks) c.put_count.ensures.controls.barrier) in
    record {
      found = subst (λ n. FoundFull n c.in_ok-full.full (g.P.Post.state c.args.post.now) (g.P.Post.state c.put_count.new.post)) layout c.in_ok-full.ensures.full;
      count = λ none few. c.in_ok-full.ensures.put (none, c.requires.stands.belongs.agrees.nothing_waits) few;
      totals = λ first all more. inr (sym c.is_some.ensures ∙ c.if-is_some.true);
    }

pub returns-clause-due : goal.returns-clause-due
returns-clause-due g c =
    let none : c.in_ok-full.full ≡ None = none_from_false c.in_ok-full.full (sym c.is_some.ensures ∙ c.if-is_some.false) in
    due_after (held_letters c.args.comm.now) c.put_count.new.self c.put_totals.new.self (g.P.Post.state c.args.post.now) (g.P.Post.state c.put_count.new.post)
    (g.P.Post.state c.put_totals.new.post)
    (subst (λ f. FoundFull c.args.self.now.layout.ranks f (g.P.Post.state c.args.post.now) (g.P.Post.state c.put_count.new.post)) none c.in_ok-full.ensures.full)
    c.put_totals.ensures.controls c.put_totals.ensures.counted
    (λ idle few. elim (c.in_ok-full.ensures.put (idle, c.requires.stands.belongs.agrees.nothing_waits) few) [
      | inl more ↦ more
      | inr some ↦ absurd (none-some 0 (sym none ∙ some))
    ])
    c.put_totals.result c.put_totals.ensures.full c.put_totals.ensures.put
