use Rattle.std.proofs.Common.{◌∙◌, map, refl}
use Rattle.ygm_run.proofs.Inputs.AreRests.{rests_none, rests_then}
use Rattle.ygm_run.proofs.ranks.Ranks.run_all.Goals as goal

pub loop-init : goal.loop-init
loop-init g c = record {
  runs = λ layout start are. are;
  rests = rests_none g.S.Source.left c.args.sources.now;
  same = refl;
}

pub round-requires : goal.round-requires
round-requires g c = record { runs = (c.requires.runs.0, c.requires.runs.1, c.loop.invariant.runs c.requires.runs.0 c.requires.runs.1 c.requires.runs.2) }

pub loop-preserved : goal.loop-preserved
loop-preserved g c = record {
  runs = λ layout start are. c.round.ensures.runs layout start (c.loop.invariant.runs layout start are);
  rests =
      rests_then g.S.Source.left (map g.S.Source.left c.args.sources.now) c.loop.sources c.round.new.sources c.round.ensures.same_sources c.loop.invariant.rests
      c.round.ensures.rests;
  same = c.round.ensures.same_sources ∙ c.loop.invariant.same;
}
