use Rattle.std.proofs.Common.{of_calls, refl}
use Rattle.list_facts.proofs.Steps.{FoldsTo-next}
use Rattle.counting_set.specs.Shown.{ShownTo}
use Rattle.counting_set.proofs.counting.Counting.show_all.Goals as goal

pub loop-k-preserved : goal.loop-k-preserved
loop-k-preserved g c =
    let entry = c.entry_here-count.result in
    let shown : ShownTo g.F.FnMut c.loop-k.f (entry.0.now, entry.1) c.f.new.self = record { item = entry.0; shows = refl; called = record { met = c.f.ensures.met } } in
    (search of_calls, λ last rest. c.loop-k.invariant.1 last (FoldsTo-next (ShownTo g.F.FnMut) c.loop-k.f c.f.new.self last c.args.self.now c.loop-k.k (entry.0.now, entry.1) c.entry_here-count.ensures shown rest))
