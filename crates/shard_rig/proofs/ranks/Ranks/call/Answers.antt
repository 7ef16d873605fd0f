use Rattle.std.proofs.Common.{◌<◌, ◌∙◌, length, rules, sym}
use Rattle.world_core.specs.Plain.{state_of}
use Rattle.comm_rank.proofs.Rank.Same.{same_none}
use Rattle.shard_rig.proofs.Ready.EachStep.{all_set, at_place, called}
use Rattle.shard_rig.proofs.ranks.Ranks.call.Goals as goal

pub invariant_of-self : goal.invariant_of-self
invariant_of-self g c =
    let apply = g.H.Handler.apply in
    let start = g.H.Handler.start in
    let comms = c.self.inside.comms.items in
    let post = state_of c.self.inside.links.value in
    let me = c.index_mut.result.now in
    let now = c.make.new.comm in
    let made = c.make.ensures in
    let within : c.args.rank < length comms = search rules in
    let all = c.self.invariant.2 in
    let at = at_place apply start comms post all c.args.rank me within c.index_mut.ensures.value in (
      c.self.invariant.0,
      c.self.invariant.1,
      all_set apply start comms post all post c.args.rank now within (made.rank.here ∙ at.0)
          (λ going. called apply start me now post made.rank made.agrees (at.1 (sym made.stopped ∙ going)))
          (same_none c.args.rank post),
    )
