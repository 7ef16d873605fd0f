use Rattle.std.proofs.Common.{◌≡◌, ◌<◌, ◌≤◌, ◌∙◌, ◌∷◌, ◌++◌, [], List, ap, arith, length, lt-ltb, rules, sym, subst}
use Rattle.ygm_route.specs.Layout.{Shape}
use Rattle.ygm_route.specs.declared.scheme.Scheme.TheVariants.{Direct}
use Rattle.world_core.specs.Plain.{state_of}
use Rattle.comm_rank.specs.Rank.{Rank}
use Rattle.shard_rig.specs.Ready.{AreReady}
use Rattle.shard_rig.proofs.Ready.EachStep.{all_added, new_ready}
use Rattle.shard_rig.proofs.ranks.Ranks.add.Goals as goal

pub invariant_of-self-2 : goal.invariant_of-self-2
invariant_of-self-2 g c =
    let apply = g.H.Handler.apply in
    let start = g.H.Handler.start in
    let comms = c.self.inside.comms.items in
    let world = c.self.inside.links.value.world in
    let post = state_of c.self.inside.links.value in
    let here = c.len-here.result in
    let now = c.in-Ok.comm in
    let layout = c.self.inside.layout in
    let number : here ≡ length comms = search rules in
    let ranks : world.layout.ranks ≡ layout.ranks = ap (λ (shape : Shape). shape.ranks) c.self.invariant.0 in
    let within : here < world.layout.ranks = omega (arith, c.if-here-ranks.false, c.ranks.ensures.value, ranks) in
    let all = c.self.invariant.2 in
    let none = all.not_added here (omega (arith, number)) in
    let ready = new_ready apply start now layout Direct here c.self.inside.limits.letters c.args.shard post c.in-Ok.ensures.made c.in-Ok.ensures.agrees
    (lt-ltb here world.layout.ranks within) c.self.invariant.0 c.self.invariant.1 none in
    let items : c.push.new.self.items ≡ comms ++ now ∷ [] = c.in_ok-push.ensures.items in (
      c.self.invariant.0,
      c.self.invariant.1,
      subst (λ all. AreReady apply start all post) (sym items) (all_added apply start comms post all now (ready.0 ∙ number) ready.1),
    )
