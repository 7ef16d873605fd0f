use Rattle.std.proofs.Common.{drop}
use Rattle.std.specs.List.{FoldsTo}
use Rattle.bag_set.specs.Shown.{ShownTo}
use Rattle.bag_set.proofs.set.Set.show_all.Given as goal

-- the calls at the remaining items end where the calls at all items end
abbrev pub invariant-loop-k : goal.invariant-loop-k
invariant-loop-k g l =
    goal.F-IsAlwaysCallable g l.f
    × ((last : _) → FoldsTo (ShownTo g.F.FnMut) l.f (drop l.k l.self) last → FoldsTo (ShownTo g.F.FnMut) l.fn.f l.fn.self last)
