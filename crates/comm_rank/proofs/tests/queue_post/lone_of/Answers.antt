use Rattle.std.proofs.Common.{◌≡◌, ◌<◌, ◌^◌, ◌∙◌, [], refl, ap, arith}
use Rattle.ygm_route.specs.declared.scheme.Scheme.TheVariants.{Direct}
use Rattle.ygm_route.specs.Layout.{Shape}
use Rattle.world_core.specs.Plain.{Plain, fresh_links}
use Rattle.comm_rank.specs.Rank.{fresh_rank}
use Rattle.comm_rank.proofs.Agrees.Fresh.{belongs_new}
use Rattle.comm_rank.proofs.tests.queue_post.lone_of.Goals as goal

pub invariant_of-result : goal.invariant_of-result
invariant_of-result g c =
    let layout : Shape = record { ranks = 1; cores = 1 } in
    let most = c.args.limits.letters in
    let heard = g.T.Tap.heard c.args.tap in
    let within : 0 < layout.ranks = omega arith in
    let post : c.in_ok-post.post.value ≡ fresh_links layout Direct 2 (2 ^ 64) = c.in_ok-post.ensures ∙ c.in_ok-new.ensures in
    let same : c.layout.result ≡ layout = c.layout.ensures ∙ ap (λ (p : Plain). p.world.layout) (c.deref.ensures ∙ post) in
    let comm : c.in_ok-boxed.field-0.value ≡ fresh_rank layout Direct 0 most [] heard = c.in_ok-boxed.ensures ∙ c.in_ok-comm.ensures.made ∙ ap (λ (l : Shape). fresh_rank l Direct 0 most [] heard) same in
    λ going. rw (post, comm) (belongs_new _ _ layout Direct most 2 (2 ^ 64) [] heard refl 0 within, tt)
