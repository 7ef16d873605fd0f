use Rattle.std.proofs.Common.{◌≡◌, ◌≤◌, List, length, map, sym, ◌∙◌, subst, arith}
use Rattle.std.proofs.lemmas.Result.{MatchResult-weaker}
use Rattle.ygm_run.specs.declared.ranks.RankRun.{RankRun}
use Rattle.ygm_run.specs.BadLines.{tally_wrong}
use Rattle.ygm_run.specs.JobEnds.{HasRun, JobStops}
use Rattle.ygm_run.proofs.RankRuns.Begun.{fresh_are_runs}
use Rattle.ygm_run.proofs.RankRuns.Ended.{few_ranks, has_run}
use Rattle.ygm_run.proofs.RankRuns.Stopped.{stops}
use Rattle.ygm_run.proofs.ranks.Ranks.run.Goals as goal

pub run_all-requires : goal.run_all-requires
run_all-requires g c =
    let new = c.requires.new in
    record {
      runs = (new.0, c.args.sources.now, fresh_are_runs g.S.Source.left g.S.Source.faults new.0 c.args.sources.now c.args.self.runs.items c.args.self.links new.1 c.requires.fresh);
    }

pub outcome-requires : goal.outcome-requires
outcome-requires g c =
    let new = c.requires.new in
    let start = c.args.sources.now in
    let are = c.run_all.ensures.runs new.0 start (fresh_are_runs g.S.Source.left g.S.Source.faults new.0 start c.args.self.runs.items c.args.self.links new.1 c.requires.fresh) in
    record { few = few_ranks g.S.Source.left g.S.Source.faults new.0 start c.run_all.new.self.runs.items c.run_all.new.self.links c.run_all.new.sources are c.world.ensures.sound.sound }

pub returns-clause-ran : goal.returns-clause-ran
returns-clause-ran g c =
    let new = c.requires.new in
    let start = c.args.sources.now in
    let begun : List RankRun = c.args.self.runs.items in
    let now = c.run_all.new in
    let runs : List RankRun = now.self.runs.items in
    let left = g.S.Source.left in
    let faults = g.S.Source.faults in
    let are = c.run_all.ensures.runs new.0 start (fresh_are_runs left faults new.0 start begun c.args.self.links new.1 c.requires.fresh) in
    let same : length runs ≡ length begun = are.all ∙ sym new.1.all in
    let few : length now.sources ≤ length runs = omega (arith, c.run_all.ensures.same_sources, c.requires.few, same) in
    MatchResult-weaker c.outcome.result c.outcome.ensures.ok
    (λ shards well.
    subst (λ ranks. HasRun left faults ranks start now.sources shards.items) same
    (has_run left faults new.0 start runs now.self.links now.sources are c.run_all.ensures.ended few c.world.ensures.sound.sound shards.items well))
    (λ fault any. tt)

pub returns-clause-stopped : goal.returns-clause-stopped
returns-clause-stopped g c =
    let new = c.requires.new in
    let start = c.args.sources.now in
    let begun : List RankRun = c.args.self.runs.items in
    let now = c.run_all.new in
    let runs : List RankRun = now.self.runs.items in
    let left = g.S.Source.left in
    let faults = g.S.Source.faults in
    let are = c.run_all.ensures.runs new.0 start (fresh_are_runs left faults new.0 start begun c.args.self.links new.1 c.requires.fresh) in
    let same : length runs ≡ length begun = are.all ∙ sym new.1.all in
    let few : length now.sources ≤ length runs = omega (arith, c.run_all.ensures.same_sources, c.requires.few, same) in
    MatchResult-weaker c.outcome.result c.outcome.ensures.fault (λ shards any. tt)
    (λ fault ends.
    subst (λ ranks. JobStops tally_wrong left faults ranks (map left start) now.sources fault) same
    (stops left faults new.0 start runs now.self.links now.sources are c.run_all.ensures.ended few c.run_all.ensures.same_sources fault ends))
