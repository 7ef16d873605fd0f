use Rattle.std.proofs.Common.{◌≡◌, ◌<◌, length, refl, ap, ◌∙◌, slice_set, get_or, arith}
use Rattle.std.proofs.lemmas.List.{get_or_read_under}
use Rattle.term_barrier.specs.declared.heard.Heard.{Heard}
use Rattle.term_barrier.specs.Barriers.{BarrierState, heard_more, heard_of, none_heard}
use Rattle.term_barrier.proofs.Hearing.{hears_of_rank, with_heard}
use Rattle.term_barrier.proofs.barrier.Barrier.hear_count.Goals as goal

pub returns-then-rank-len : goal.returns-then-rank-len
returns-then-rank-len c =
    let heard = c.self.inside.heard.items in
    let inside : c.args.rank < length heard = omega (arith, c.if-rank-len.true, c.len.ensures, c.self.inside.heard.ok.0) in
    let read : c.index_mut.result.now ≡ get_or heard c.args.rank none_heard =
    get_or_read_under heard c.args.rank (length heard) c.index_mut.result.now none_heard c.index_mut.ensures.value inside refl in
    let same : c.hear.new.self ≡ heard_more (heard_of c.args.self.now c.args.rank) (record { sent = c.args.s; run = c.args.r }) =
    c.hear.ensures ∙ ap (λ (h : Heard). heard_more h (record { sent = c.args.s; run = c.args.r }))
    (read ∙ ap (λ (b : BarrierState). heard_of b c.args.rank) c.self.view_is) in
    record {
      heard = ap (λ (b : BarrierState). with_heard b (slice_set b.heard c.args.rank c.hear.new.self)) c.self.view_is
          ∙ hears_of_rank c.args.self.now c.args.rank c.args.q c.args.s c.args.r c.hear.new.self c.ranges.s.fits c.ranges.r.fits same;
    }
