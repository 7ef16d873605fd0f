use Rattle.std.proofs.Common.{◌≡◌, ◌∙◌, [], refl}
use Rattle.ygm_route.specs.declared.scheme.Scheme.TheVariants.{Direct}
use Rattle.world_core.specs.Plain.{fresh_links}
use Rattle.shard_rig.proofs.Ready.EachStep.{none_added}
use Rattle.shard_rig.proofs.ranks.Ranks.new.Goals as goal

pub invariant_of-result : goal.invariant_of-result
invariant_of-result g c =
    let layout = c.in_ok-layout.layout in
    let batches = c.args.limits.batches in
    let links : c.in_ok-new.field-0.value ≡ fresh_links layout Direct 4 batches = c.in_ok-new.ensures.ok ∙ c.in_ok-links.ensures in
    rw (links, c.new-3.ensures.items) (refl, refl, none_added g.H.Handler.apply g.H.Handler.start layout Direct 4 batches)
