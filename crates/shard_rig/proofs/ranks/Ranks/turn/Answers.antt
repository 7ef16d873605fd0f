use Rattle.std.proofs.Common.{◌≡◌, ◌<◌, ◌∙◌, false, length, rules, subst, sym}
use Rattle.world_core.specs.Plain.{Plain, state_of}
use Rattle.world_core.specs.Post.{SamePost}
use Rattle.shard_rig.specs.Ready.{IsReady}
use Rattle.shard_rig.proofs.Ready.EachStep.{all_set, at_place}
use Rattle.shard_rig.proofs.ranks.Ranks.turn.Goals as goal

pub turn-requires : goal.turn-requires
turn-requires g c =
    let apply = g.H.Handler.apply in
    let start = g.H.Handler.start in
    let comms = c.self.inside.comms.items in
    let me = c.index_mut.result.now in
    let within : c.args.rank < length comms = search rules in
    let at = at_place apply start comms (state_of c.self.inside.links.value) c.self.invariant.2 c.args.rank me within c.index_mut.ensures.value in
    let P : Plain → Type 0 = λ post. me.stopped ≡ false → IsReady apply start me (state_of post) in
    record { ready = subst P (sym c.deref_mut.ensures.value) at.1 }

pub invariant_of-self : goal.invariant_of-self
invariant_of-self g c =
    let apply = g.H.Handler.apply in
    let start = g.H.Handler.start in
    let comms = c.self.inside.comms.items in
    let old = state_of c.self.inside.links.value in
    let new = state_of c.turn.new.links in
    let rank = c.args.rank in
    let me = c.index_mut.result.now in
    let turned = c.turn.ensures in
    let within : rank < length comms = search rules in
    let all = c.self.invariant.2 in
    let at = at_place apply start comms old all rank me within c.index_mut.ensures.value in
    let mine : SamePost me.here old new =
    subst (λ (links : Plain). SamePost me.here (state_of links) new) c.deref_mut.ensures.value turned.post in
    let same : SamePost rank old new = subst (λ r. SamePost r old new) at.0 mine in (
      same.layout ∙ c.self.invariant.0,
      same.scheme ∙ c.self.invariant.1,
      all_set apply start comms old all new rank c.turn.new.comm within (turned.here ∙ at.0) turned.ready same,
    )
