use Rattle.std.proofs.Common.{◌<◌, ◌∙◌, Some, length, length-set, sym, ap, rules}
use Rattle.std.proofs.lemmas.Option.{slice_get-get_or}
use Rattle.world_core.specs.Plain.{state_of}
use Rattle.comm_rank.proofs.Rank.Same.{same_none}
use Rattle.comm_rank.proofs.tests.Standing.{all_set, stands_sent}
use Rattle.comm_rank.proofs.tests.Ranks.flush.Goals as goal

pub invariant_of-self : goal.invariant_of-self
invariant_of-self g c =
    let apply = g.H.Handler.apply in
    let start = g.H.Handler.start in
    let comms = c.self.inside.comms.items in
    let links = c.self.inside.links.value in
    let rank = c.args.rank in
    let me = c.index_mut.result.now in
    let now = c.flush_by.new.comm in
    let e = c.flush_by.ensures in
    let within : rank < length comms = search rules in
    let at = c.self.invariant.2 rank me (slice_get-get_or comms rank me within ∙ ap Some (sym c.index_mut.ensures.value)) in (
      c.self.invariant.0,
      length-set comms rank now ∙ c.self.invariant.1,
      all_set apply start comms links links rank now c.self.invariant.2 (e.same.here ∙ at.0)
          (λ going. stands_sent apply start links me now e.same e.agrees (at.1 (sym e.stopped ∙ going))) (same_none rank (state_of links)),
    )
