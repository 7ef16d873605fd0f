use Rattle.std.proofs.Common.{ap, ◌∙◌, Vec, ℕ, Global}
use Rattle.bag_set.specs.Sets.{has}
use Rattle.bag_set.proofs.Sets.Keys.{has-keys}
use Rattle.bag_set.proofs.set.Set.contains_here.Goals as goal

pub returns : goal.returns
returns c =
    c.contains.ensures
    ∙ has-keys {K = Vec ℕ Global} (λ k. k.items) c.args.item.now c.self.inside.items.keys
    ∙ ap (λ items. has items c.args.item.now) c.self.view_is
