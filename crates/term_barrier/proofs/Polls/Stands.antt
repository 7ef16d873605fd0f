-- A rank and its barrier stand where they stood, whatever else happened at the post.
use Rattle.std.proofs.Common.{◌≡◌, ℕ, sym, subst}
use Rattle.world_core.specs.Post.{PostState, SamePost}
use Rattle.comm_rank.specs.Agrees.{MayTurn}
use Rattle.comm_rank.specs.Fold.{Applies}
use Rattle.comm_rank.specs.Rank.{Rank, local_of}
use Rattle.comm_rank.proofs.Rank.Same.{belongs_still}
use Rattle.term_barrier.specs.Barriers.{BarrierAgrees, BarrierState}
use Rattle.term_barrier.specs.Polls.{Stands}

pub stands_unchanged : {C : Type 0} (apply : Applies C) (start : C → C) (barrier : BarrierState) (me : Rank C) (here : ℕ) (before after : PostState) →
    SamePost here before after → after.log me.here ≡ before.log me.here → Stands apply start barrier me before → Stands apply start barrier me after
stands_unchanged apply start barrier me here before after same unchanged stands = record {
  belongs = belongs_still apply start me here before after same unchanged stands.belongs;
  may_turn = subst (MayTurn me) (sym unchanged) stands.may_turn;
  agrees = subst (λ entries. BarrierAgrees barrier me.controls (local_of me entries)) (sym unchanged) stands.agrees;
}
