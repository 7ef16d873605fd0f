use Rattle.std.proofs.Common.{◌≡◌, true, map, ap, sym, ◌∙◌, Vec, ℕ, Global}
use Rattle.bag_set.specs.Sets.{has, inserted}
use Rattle.bag_set.proofs.Sets.Has.{inserted_known}
use Rattle.bag_set.proofs.Sets.Keys.{has-keys, inserted-key}
use Rattle.bag_set.proofs.set.Set.insert.Goals as goal

pub returns-then-contains-clause-ok : goal.returns-then-contains-clause-ok
returns-then-contains-clause-ok c =
    let keys = has-keys {K = Vec ℕ Global} (λ k. k.items) c.args.item.now c.self.inside.items.keys in
    let there : has c.args.self.now c.args.item.now ≡ true =
    ap (λ items. has items c.args.item.now) (sym c.self.view_is) ∙ sym keys ∙ sym c.contains.ensures ∙ c.if-contains.true in
    sym (inserted_known c.args.item.now c.args.self.now there)

pub returns-clause-ok : goal.returns-clause-ok
returns-clause-ok c =
    ap (map (λ k. k.items)) c.in_ok-insert.ensures.keys
    ∙ inserted-key {K = Vec ℕ Global} (λ k. k.items) c.in_ok-item.item c.self.inside.items.keys
    ∙ ap (λ item. inserted item (map (λ k. k.items) c.self.inside.items.keys)) c.in_ok-item.ensures.items
    ∙ ap (inserted c.args.item.now) c.self.view_is
