use Rattle.std.proofs.Common.{ap, sym, refl, ◌∙◌, Vec, ℕ, Global, Bool}
use Rattle.std.specs.Prelude.{bytes_eq}
use Rattle.indexmap.specs.IndexMap.{insert_entry}
use Rattle.counting_set.specs.Counting.{added}
use Rattle.counting_set.proofs.Counts.Map.{seen, added-set_value, added-insert_entry}
use Rattle.counting_set.proofs.counting.Counting.add.Goals as goal

pub returns-in-Some-clause-ok : goal.returns-in-Some-clause-ok
returns-in-Some-clause-ok c =
    let now = c.saturating_add.result in
    let written = c.get_mut.follows.holds now in
    ap (seen {K = Vec ℕ Global} (λ k. k.items)) written.0
    ∙ added-set_value {K = Vec ℕ Global} (λ k. k.items) c.args.item.now c.args.count c.in-Some.held.now now c.self.inside.counts.entries (sym c.in-Some.ensures.value) c.saturating_add.ensures
    ∙ ap (added c.args.item.now c.args.count) c.self.view_is

pub returns-clause-ok : goal.returns-clause-ok
returns-clause-ok c =
    ap (seen {K = Vec ℕ Global} (λ k. k.items)) (c.in_ok-insert.ensures.entries ∙ ap (λ m. insert_entry same m.entries c.in_ok-key.key c.args.count) c.get_mut.follows.holds-at-none)
    ∙ added-insert_entry {K = Vec ℕ Global} (λ k. k.items) same c.in_ok-key.key c.args.item.now c.args.count c.self.inside.counts.entries (λ k. refl) c.in_ok-key.ensures.items (sym c.in_default.ensures.value)
    ∙ ap (added c.args.item.now c.args.count) c.self.view_is
  where
    same : Vec ℕ Global → Vec ℕ Global → Bool
    same x y = bytes_eq x.items y.items
