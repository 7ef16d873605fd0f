use Rattle.std.proofs.Common.{of_calls, refl}
use Rattle.list_facts.proofs.Steps.{FoldsTo-next}
use Rattle.bag_set.specs.Shown.{ShownTo}
use Rattle.bag_set.proofs.set.Set.show_all.Goals as goal

pub loop-k-preserved : goal.loop-k-preserved
loop-k-preserved g c =
    let item = c.item_here-item.result in
    let shown : ShownTo g.F.FnMut c.loop-k.f item.now c.f.new.self = record { borrowed = item; shows = refl; called = record { met = c.f.ensures.met } } in
    (search of_calls, λ last rest. c.loop-k.invariant.1 last (FoldsTo-next (ShownTo g.F.FnMut) c.loop-k.f c.f.new.self last c.args.self.now c.loop-k.k item.now c.item_here-item.ensures shown rest))
