use Rattle.std.proofs.Common.{◌≡◌, ◌<◌, ◌∙◌, false, length, length-set, sym, subst, rules}
use Rattle.world_core.specs.Plain.{Plain, state_of}
use Rattle.world_core.specs.Post.{SamePost}
use Rattle.term_barrier.specs.Polls.{Stands}
use Rattle.term_barrier.proofs.tests.ranks.Standing.{all_turned, at_place}
use Rattle.term_barrier.proofs.tests.ranks.Ranks.pass.Goals as goal

pub pass-requires : goal.pass-requires
pass-requires g c =
    let apply = g.H.Handler.apply in
    let start = g.H.Handler.start in
    let members = c.self.inside.members.items in
    let links = c.self.inside.links.value in
    let me = c.index_mut.result.now in
    let within : c.args.rank < length members = search rules in
    let at = at_place apply start members (state_of links) c.args.rank me within c.self.invariant.2 c.index_mut.ensures.value in
    let P : Plain → Type 0 = λ post. me.comm.stopped ≡ false → Stands apply start me.barrier me.comm (state_of post) in
    record { stands = subst P (sym c.deref_mut.ensures.value) at.1 }

pub invariant_of-self : goal.invariant_of-self
invariant_of-self g c =
    let members = c.self.inside.members.items in
    let old = state_of c.self.inside.links.value in
    let new = state_of c.pass.new.links in
    let rank = c.args.rank in
    let me = c.index_mut.result.now in
    let now = c.pass.new.self in
    let e = c.pass.ensures in
    let within : rank < length members = search rules in
    let same : SamePost me.comm.here old new =
    subst (λ (l : Plain). SamePost me.comm.here (state_of l) new) c.deref_mut.ensures.value e.post in (
      same.layout ∙ c.self.invariant.0,
      length-set members rank now ∙ c.self.invariant.1,
      all_turned g.H.Handler.apply g.H.Handler.start members old new rank me now within
          c.self.invariant.2 c.index_mut.ensures.value e.here e.stands same,
    )
