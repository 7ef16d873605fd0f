use Rattle.std.proofs.Common.{◌≡◌, true, nat_eq, eq-eqb, ap, ◌∙◌, sym}
use Rattle.term_barrier.proofs.Hearing.{hears_total, room_for_total}
use Rattle.term_barrier.proofs.barrier.Barrier.hear_total.Goals as goal

pub know-requires : goal.know-requires
know-requires c =
    let here : nat_eq c.args.to c.args.self.now.here ≡ true = eq-eqb _ _ (c.if-to-self.true ∙ ap (λ b. b.here) c.self.view_is) in
    record { room = room_for_total c.args.self.now c.args.to c.args.q c.args.s c.args.r c.requires.room here }

pub returns-then-to-self : goal.returns-then-to-self
returns-then-to-self c =
    let here : nat_eq c.args.to c.args.self.now.here ≡ true = eq-eqb _ _ (c.if-to-self.true ∙ ap (λ b. b.here) c.self.view_is) in
    record { heard = c.know.ensures.known ∙ sym (hears_total c.args.self.now c.args.to c.args.q c.args.s c.args.r c.ranges.s.fits c.ranges.r.fits here) }
