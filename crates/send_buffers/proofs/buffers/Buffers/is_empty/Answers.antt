use Rattle.std.proofs.Common.{◌≡◌, [], length, ap, ◌∙◌, sym, subst, inl, inr, arith, true≢false}
use Rattle.std.proofs.lemmas.Bool.{cases_lt}
use Rattle.send_buffers.specs.Buffers.{Buffered, letters_in, queue_at}
use Rattle.send_buffers.proofs.Queued.Queues.{all_empty, each_empty}
use Rattle.send_buffers.proofs.buffers.Buffers.is_empty.Goals as goal

pub returns-then-holds_any-clause-some : goal.returns-then-holds_any-clause-some
returns-then-holds_any-clause-some c = λ none.
    absurd (true≢false (sym c.if-holds_any.true ∙ c.holds_any.ensures.some (each_empty c.args.self.now.queues none c.loop-to.to)))

pub loop-to-preserved : goal.loop-to-preserved
loop-to-preserved c = record {
  none = λ next less. elim (cases_lt next c.loop-to.to) [
    | inl before ↦ c.loop-to.invariant.none next before
    | inr past ↦
        let here : c.loop-to.to ≡ next = omega (arith, past, less) in
        subst (λ k. letters_in (queue_at c.args.self.now.queues k) ≡ []) here (c.holds_any.ensures.none c.if-holds_any.false)
  ];
}

pub returns-clause-empty : goal.returns-clause-empty
returns-clause-empty c = λ _.
    let ranks : c.self.inside.layout.ranks ≡ c.args.self.now.layout.ranks = ap (λ (b : Buffered). b.layout.ranks) c.self.view_is in
    let all = c.self.invariant.all ∙ ranks in
    let queues = ap (λ (b : Buffered). length b.queues) c.self.view_is in
    all_empty c.args.self.now.queues (λ next within. c.loop-to.invariant.none next (omega (arith, within, all, ranks, queues, c.loop-to-test.false, c.ranks-to-end.ensures.value)))
