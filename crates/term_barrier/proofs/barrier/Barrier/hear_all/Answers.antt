use Rattle.std.proofs.Common.{◌≡◌, List, ◌∷◌, ap, ◌∙◌, sym, subst}
use Rattle.msg_codec.specs.Control.{letter_of_control}
use Rattle.msg_codec.specs.declared.letter.Letter.{Letter}
use Rattle.comm_rank.specs.Rank.{Rank}
use Rattle.term_barrier.specs.Barriers.{BarrierState, HasRoom, with_letters}
use Rattle.term_barrier.proofs.Hearing.{room_for_first, room_for_rest}
use Rattle.term_barrier.proofs.barrier.Barrier.hear_all.Goals as goal

pub hear-requires : goal.hear-requires
hear-requires g c =
    let letter = letter_of_control c.in-Some.control in
    let controls : c.loop-control.comm.controls ≡ letter ∷ c.next_control.new.self.controls = ap (λ (r : Rank g.row.H.Denot). r.controls) c.in-Some.ensures.some in
    record { room = room_for_first c.loop-control.self letter c.next_control.new.self.controls (subst (HasRoom c.loop-control.self) controls c.loop-control.invariant.room) }

pub loop-control-preserved : goal.loop-control-preserved
loop-control-preserved g c =
    let letter = letter_of_control c.in-Some.control in
    let rest = c.next_control.new.self.controls in
    let some = c.in-Some.ensures.some in
    let controls : c.loop-control.comm.controls ≡ letter ∷ rest = ap (λ (r : Rank g.row.H.Denot). r.controls) some in
    record {
      room = subst (λ (b : BarrierState). HasRoom b rest) (sym c.hear.ensures.heard)
          (room_for_rest c.loop-control.self letter rest (subst (HasRoom c.loop-control.self) controls c.loop-control.invariant.room));
      heard = ap (λ (b : BarrierState). with_letters b rest) c.hear.ensures.heard
          ∙ ap (with_letters c.loop-control.self) (sym controls) ∙ c.loop-control.invariant.heard;
      comm = ap (λ (r : Rank g.row.H.Denot). with_controls r rest) (sym some ∙ c.loop-control.invariant.comm);
    }
  where
    with_controls : {C : Type 0} → Rank C → List Letter → Rank C
    with_controls r controls = record r { controls = controls }
