use Rattle.std.proofs.Common.{map, ap, sym, ◌∙◌, Vec, ℕ, Global}
use Rattle.std.specs.List.{list_any}
use Rattle.bag_set.specs.Sets.{erased}
use Rattle.bag_set.proofs.Sets.Keys.{erased-key, is_key}
use Rattle.bag_set.proofs.set.Set.erase.Goals as goal

pub returns : goal.returns
returns c =
    let is = is_key {K = Vec ℕ Global} (λ k. k.items) c.args.item.now in
    let removed = c.shift_remove.ensures in
    ap (map (λ k. k.items)) removed.keys
    ∙ erased-key {K = Vec ℕ Global} (λ k. k.items) c.args.item.now c.self.inside.items.keys (sym (ap (list_any is) removed.keys) ∙ removed.updates.1)
    ∙ ap (erased c.args.item.now) c.self.view_is
