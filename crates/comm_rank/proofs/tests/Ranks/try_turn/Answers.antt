use Rattle.std.proofs.Common.{◌≡◌, ◌<◌, ◌∙◌, false, Some, slice_get, length, length-set, sym, ap, subst, rules}
use Rattle.std.proofs.lemmas.Option.{slice_get-get_or}
use Rattle.list_facts.proofs.Places.{same_item}
use Rattle.world_core.specs.Plain.{Plain, state_of}
use Rattle.world_core.specs.Post.{SamePost}
use Rattle.world_core.specs.World.{log_of}
use Rattle.comm_rank.specs.Agrees.{Belongs, PutsData}
use Rattle.comm_rank.specs.Rank.{Rank}
use Rattle.comm_rank.proofs.tests.Standing.{all_set}
use Rattle.comm_rank.proofs.tests.Ranks.try_turn.Goals as goal

pub turn_of-requires : goal.turn_of-requires
turn_of-requires g c =
    let apply = g.H.Handler.apply in
    let start = g.H.Handler.start in
    let links = c.self.inside.links.value in
    let comms = c.self.inside.comms.items in
    let rank = c.args.rank in
    let me = c.index_mut.result.now in
    let within : rank < length comms = search rules in
    let there : slice_get comms rank ≡ Some me = slice_get-get_or comms rank me within ∙ ap Some (sym c.index_mut.ensures.value) in
    let read : slice_get comms rank ≡ Some c.index.result.now = slice_get-get_or comms rank _ within ∙ ap Some (sym c.index.ensures) in
    let going : me.stopped ≡ false = ap (λ (m : Rank g.row.H.Denot). m.stopped) (same_item comms rank me c.index.result.now there read) ∙ sym c.is_stopped.ensures ∙ c.if-is_stopped.false in
    let stands = (c.self.invariant.2 rank me there).1 going in
    record {
      going = going;
      belongs = subst (λ post. Belongs apply start me (state_of post)) (sym c.deref_mut.ensures.value) stands.0;
      data_alone = subst (λ (post : Plain). PutsData (log_of post.world me.here)) (sym c.deref_mut.ensures.value) stands.1;
    }

pub invariant_of-self : goal.invariant_of-self
invariant_of-self g c =
    let apply = g.H.Handler.apply in
    let start = g.H.Handler.start in
    let comms = c.self.inside.comms.items in
    let links = c.self.inside.links.value in
    let new = c.turn_of.new.post in
    let rank = c.args.rank in
    let me = c.index_mut.result.now in
    let now = c.turn_of.new.comm in
    let e = c.turn_of.ensures in
    let within : rank < length comms = search rules in
    let at = c.self.invariant.2 rank me (slice_get-get_or comms rank me within ∙ ap Some (sym c.index_mut.ensures.value)) in
    let post : SamePost me.here (state_of links) (state_of new) = subst (λ l. SamePost me.here (state_of l) (state_of new)) c.deref_mut.ensures.value e.same_post in
    let here = e.same_rank.here ∙ at.0 in (
      post.layout ∙ c.self.invariant.0,
      length-set comms rank now ∙ c.self.invariant.1,
      all_set apply start comms links new rank now c.self.invariant.2 here
          (λ going. (e.belongs going, subst (λ h. PutsData (log_of new.world h)) (sym e.same_rank.here) (e.data_alone going)))
          (subst (λ r. SamePost r (state_of links) (state_of new)) at.0 post),
    )
