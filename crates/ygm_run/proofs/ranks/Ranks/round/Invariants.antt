use Rattle.std.proofs.Common.{◌≡◌, List, length, map}
use Rattle.ygm_route.specs.Layout.{Shape}
use Rattle.ygm_run.specs.Inputs.{AreRests}
use Rattle.ygm_run.specs.RankRuns.{AreRuns}
use Rattle.ygm_run.proofs.ranks.Ranks.round.Given as goal

-- the first ranks whose jobs go on had their turns
abbrev pub invariant-loop-rank : goal.invariant-loop-rank
invariant-loop-rank g l = record {
  runs : (layout : Shape) (start : List g.row.S.Denot) → AreRuns g.S.Source.left g.S.Source.faults layout start l.fn.self.runs.items l.fn.self.links l.fn.sources
      → AreRuns g.S.Source.left g.S.Source.faults layout start l.self.runs.items l.self.links l.sources;
  rests : AreRests g.S.Source.left (map g.S.Source.left l.fn.sources) l.sources;
  same : length l.sources ≡ length l.fn.sources;
  all : length l.self.runs.items ≡ length l.fn.self.runs.items;
}
