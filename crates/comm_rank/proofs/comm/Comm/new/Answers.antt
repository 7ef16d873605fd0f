use Rattle.std.proofs.Common.{◌≡◌, false, map, [], replicate, sym, ap, ◌∙◌, subst}
use Rattle.msg_codec.specs.Control.{letter_of_control}
use Rattle.send_buffers.specs.Buffers.{Buffered, empty_queue, queued}
use Rattle.comm_rank.specs.Held.{AreData}
use Rattle.comm_rank.specs.Agrees.{Agrees}
use Rattle.comm_rank.specs.Rank.{Rank, fresh_rank}
use Rattle.comm_rank.proofs.Agrees.Fresh.{agrees_fresh, no_letters}
use Rattle.comm_rank.proofs.comm.Comm.new.Goals as goal

pub returns-clause-agrees : goal.returns-clause-agrees
returns-clause-agrees g c =
    let me : Rank g.row.H.Denot = record { layout = c.args.layout; scheme = c.args.scheme; here = c.args.here; most = c.args.limits.letters; contents = c.args.handler; sent_count = c.new-2.result.count; run_count = 0; held = c.in-Ok.held.queues; waiting = c.none.result; controls = map letter_of_control c.new-3.result.items; stopped = false; heard = g.T.Tap.heard c.args.tap } in
    let fresh : Rank g.row.H.Denot = fresh_rank c.args.layout c.args.scheme c.args.here c.args.limits.letters c.args.handler (g.T.Tap.heard c.args.tap) in
    let held : c.in-Ok.held.queues ≡ replicate c.args.layout.ranks empty_queue = ap (λ (b : Buffered). b.queues) c.in-Ok.ensures in
    let is : me ≡ fresh = (let a = c.new-2.ensures.zero in let b = c.none.ensures in let d = c.new-3.ensures.items in cc) in
    subst (λ m. Agrees g.H.Handler.apply g.H.Handler.start m []) (sym is)
    (agrees_fresh g.H.Handler.apply g.H.Handler.start c.args.layout c.args.scheme c.args.here c.args.limits.letters c.args.handler (g.T.Tap.heard c.args.tap) c.requires.fresh)

pub invariant_of-result : goal.invariant_of-result
invariant_of-result g c =
    let held : Buffered = c.in-Ok.held in
    let is = c.in-Ok.ensures in
    let none : queued held.queues ≡ [] = ap (λ (b : Buffered). queued b.queues) is ∙ no_letters c.args.layout.ranks in (
      c.requires.below,
      c.new-2.ensures.limit,
      c.new-4.ensures.ranks ∙ c.ranks.ensures.value,
      c.new-4.ensures.none,
      record {
        layout_is = ap (λ (b : Buffered). b.layout) is;
        scheme_is = ap (λ (b : Buffered). b.scheme) is;
        here_is = ap (λ (b : Buffered). b.here) is;
        data_alone = subst AreData (sym none) tt;
      },
    )
