use Rattle.std.proofs.Common.{◌<◌, ◌∙◌, length, length-set, rules}
use Rattle.world_core.specs.Plain.{state_of}
use Rattle.comm_rank.proofs.Rank.Same.{same_none}
use Rattle.term_barrier.proofs.tests.ranks.Standing.{all_turned, at_place}
use Rattle.term_barrier.proofs.tests.ranks.Ranks.enter.Goals as goal

pub invariant_of-self : goal.invariant_of-self
invariant_of-self g c =
    let apply = g.H.Handler.apply in
    let start = g.H.Handler.start in
    let members = c.self.inside.members.items in
    let post = state_of c.self.inside.links.value in
    let rank = c.args.rank in
    let me = c.index_mut.result.now in
    let now = c.enter.new.self in
    let e = c.enter.ensures in
    let within : rank < length members = search rules in
    let all = c.self.invariant.2 in
    let is = c.index_mut.ensures.value in
    let stands = e.stands post (at_place apply start members post rank me within all is).1 in (
      c.self.invariant.0,
      length-set members rank now ∙ c.self.invariant.1,
      all_turned apply start members post post rank me now within all is e.here stands (same_none me.comm.here post),
    )
