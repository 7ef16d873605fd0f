-- Ranks that stand at a post with their barriers: new ones, one that took a turn, and all others.
use Rattle.std.proofs.Common.{◌≡◌, ◌≢◌, ℕ, ◌<◌, false, None, Some, List, [], length, get_or, set, slice_get, sym, ap, ◌∙◌, subst, inl, inr, arith}
use Rattle.std.proofs.lemmas.Bool.{cases_eq}
use Rattle.std.proofs.lemmas.Option.{slice_get-get_or, slice_get_within}
use Rattle.list_facts.proofs.Places.{item_kept, item_set, same_item}
use Rattle.ygm_route.specs.declared.scheme.Scheme.{Scheme}
use Rattle.ygm_route.specs.Layout.{Shape}
use Rattle.world_core.specs.Plain.{fresh_links, state_of}
use Rattle.world_core.specs.Post.{PostState, SamePost}
use Rattle.world_core.specs.World.{log_of}
use Rattle.comm_rank.specs.declared.turn.Turn.{Turn}
use Rattle.comm_rank.specs.Agrees.{MayTurn}
use Rattle.comm_rank.specs.Fold.{Applies}
use Rattle.comm_rank.specs.Rank.{IsSameRank, Rank, fresh_rank, local_of}
use Rattle.comm_rank.specs.Turns.{HasEnded}
use Rattle.comm_rank.proofs.Agrees.Fresh.{belongs_new, none_new}
use Rattle.comm_rank.proofs.Agrees.MayTurn.{may_turn_data}
use Rattle.term_barrier.specs.declared.tests.ranks.Member.{Member}
use Rattle.term_barrier.specs.Barriers.{BarrierAgrees, BarrierState, fresh_barrier}
use Rattle.term_barrier.specs.Polls.{Stands}
use Rattle.term_barrier.proofs.Barriers.Agrees.{agrees_fresh, agrees_turned}
use Rattle.term_barrier.proofs.Polls.Stands.{stands_unchanged}

module _ {C : Type 0} (apply : Applies C) (start : C → C) where
  -- a new rank, at new links
  pub stands_new : (layout : Shape) (scheme : Scheme) (here most rounds ring batches : ℕ) (contents : C) → start contents ≡ contents → here < layout.ranks →
      Stands apply start (fresh_barrier layout here rounds) (fresh_rank layout scheme here most contents None)
      (state_of (fresh_links layout scheme ring batches))
  stands_new layout scheme here most rounds ring batches contents fresh within =
      let me : Rank C = fresh_rank layout scheme here most contents None in
      let barrier : BarrierState = fresh_barrier layout here rounds in
      let none : log_of (fresh_links layout scheme ring batches).world here ≡ [] = none_new apply start layout scheme most ring batches contents None fresh here within in
      record {
        belongs = belongs_new apply start layout scheme most ring batches contents None fresh here within;
        may_turn = subst (λ log. MayTurn me log) (sym none) (may_turn_data me [] tt);
        agrees = subst (λ log. BarrierAgrees barrier [] (local_of me log)) (sym none) (agrees_fresh layout scheme here rounds);
      }

  module _ (barrier : BarrierState) (me : Rank C) (post : PostState) (stands : Stands apply start barrier me post) where
    pub stands_turned : (new : Rank C) (after : PostState) (turn : Turn) → IsSameRank me new → HasEnded apply start me new post after turn →
        Stands apply start barrier new after
    stands_turned new after turn same ended =
        let kept = subst (λ kept. BarrierAgrees barrier kept (local_of new (after.log me.here))) (sym ended.turned.controls)
        (agrees_turned apply me new (post.log me.here) (after.log me.here) turn barrier me.controls ended.turned same stands.agrees) in
        record {
          belongs = ended.belongs;
          may_turn = subst (λ here. MayTurn new (after.log here)) (sym same.here) ended.may_turn;
          agrees = subst (λ here. BarrierAgrees barrier new.controls (local_of new (after.log here))) (sym same.here) kept;
        }

    -- another rank took a turn
    pub stands_still : (here : ℕ) (after : PostState) → me.here ≢ here → SamePost here post after → Stands apply start barrier me after
    stands_still here after other same = stands_unchanged apply start barrier me here post after same (same.other_logs me.here other) stands

  -- each rank of a list has the number of its place, and stands at the post unless it is stopped
  abbrev pub AllStand : List (Member C) → PostState → Type 0
  AllStand members post = (rank : ℕ) (member : Member C) → slice_get members rank ≡ Some member →
      (member.comm.here ≡ rank) × (member.comm.stopped ≡ false → Stands apply start member.barrier member.comm post)

  -- the member at a place
  pub at_place : (members : List (Member C)) (post : PostState) (rank : ℕ) (me : Member C) → rank < length members →
      AllStand members post → me ≡ get_or members rank me →
      (me.comm.here ≡ rank) × (me.comm.stopped ≡ false → Stands apply start me.barrier me.comm post)
  at_place members post rank me within all is = all rank me (slice_get-get_or members rank me within ∙ ap Some (sym is))

  -- one of them changed
  pub all_set : (members : List (Member C)) (old new : PostState) (rank : ℕ) (now : Member C) → rank < length members →
      AllStand members old → now.comm.here ≡ rank →
      (now.comm.stopped ≡ false → Stands apply start now.barrier now.comm new) → SamePost rank old new → AllStand (set members rank now) new
  all_set members old new rank now within all here stands same other a e = elim (cases_eq other rank) [
    | inl is ↦
        let P : ℕ → Type 0 = λ r. slice_get (set members rank now) r ≡ Some a in
        let becomes : now ≡ a = same_item (set members rank now) rank now a (item_set members rank now within) (subst P is e) in
        let Q : Member C → Type 0 = λ m. (m.comm.here ≡ other) × (m.comm.stopped ≡ false → Stands apply start m.barrier m.comm new) in
        subst Q becomes (here ∙ sym is, stands)
    | inr ne ↦
        let at = all other a (sym (item_kept members rank other now ne) ∙ e) in
        (at.0, λ going. stands_still a.barrier a.comm old (at.1 going) rank new (λ here. ne (sym at.0 ∙ here)) same)
  ]

  -- one of them took a turn
  pub all_turned : (members : List (Member C)) (old new : PostState) (rank : ℕ) (me now : Member C) → rank < length members →
      AllStand members old → me ≡ get_or members rank me → now.comm.here ≡ me.comm.here →
      (now.comm.stopped ≡ false → Stands apply start now.barrier now.comm new) → SamePost me.comm.here old new → AllStand (set members rank now) new
  all_turned members old new rank me now within all is here stands same =
      let at = at_place members old rank me within all is in
      all_set members old new rank now within all (here ∙ at.0) stands (subst (λ r. SamePost r old new) at.0 same)

  -- new ones, at new links
  pub all_new : (layout : Shape) (scheme : Scheme) (most rounds ring batches : ℕ) (contents : C) (members : List (Member C)) →
      start contents ≡ contents → length members ≡ layout.ranks →
      ((rank : ℕ) (member : Member C) → slice_get members rank ≡ Some member →
      (member.comm ≡ fresh_rank layout scheme rank most contents None) × (member.barrier ≡ fresh_barrier layout rank rounds)) →
      AllStand members (state_of (fresh_links layout scheme ring batches))
  all_new layout scheme most rounds ring batches contents members fresh all each rank member e =
      let links = state_of (fresh_links layout scheme ring batches) in
      let is = each rank member e in
      let within : rank < layout.ranks = omega (arith, slice_get_within members rank member e, all) in
      let stands = stands_new layout scheme rank most rounds ring batches contents fresh within in (
        ap (λ (me : Rank C). me.here) is.0,
        λ going.
            subst (λ me. Stands apply start member.barrier me links) (sym is.0)
            (subst (λ barrier. Stands apply start barrier (fresh_rank layout scheme rank most contents None) links) (sym is.1) stands),
      )
