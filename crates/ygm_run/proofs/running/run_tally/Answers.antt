use Rattle.std.proofs.Common.{◌≡◌, ◌∙◌, ◌∷◌, [], length, map, ap, sym, arith}
use Rattle.std.proofs.lemmas.List.{length-map, take-map, take_all}
use Rattle.ygm_run.specs.BadLines.{tally_wrong}
use Rattle.ygm_run.specs.Ending.{counts, inputs, opens, writes}
use Rattle.ygm_run.specs.Words.{texts_of}
use Rattle.ygm_run.proofs.Ending.Opened.{rests_unread}
use Rattle.ygm_run.proofs.Ending.Stages.{job_over, passed}
use Rattle.ygm_run.proofs.running.run_tally.Goals as goal

pub returns-in-Err-clause-rests : goal.returns-in-Err-clause-rests
returns-in-Err-clause-rests g c =
    let content = g.F.Files.content c.args.files.now in
    let sources = c.open_all.new.sources.items in
    rests_unread g.F.Src.Source.left (map content (texts_of c.args.names.now)) sources (length sources)
    (c.open_all.ensures.opened ∙ sym (take-map content (length sources) (texts_of c.args.names.now)))

pub returns-clause-ends : goal.returns-clause-ends
returns-clause-ends g c =
    let left = g.F.Src.Source.left in
    let faults = g.F.Src.Source.faults in
    let content = g.F.Files.content c.args.files.now in
    let names = texts_of c.args.names.now in
    let contents = map content names in
    let start = c.open_all.new.sources.items in
    let after = c.tally.result.sources.items in
    let last = writes (g.O.Sink.faults c.args.out.now) (g.O.Sink.faults c.tally.new.out) in
    let opened = c.in_default.ensures.passes in
    let held : map left start ≡ contents = c.open_all.ensures.opened ∙ ap (map content) (take_all (length start) names (omega (arith, opened.0, length-map names content))) in
    passed (opens left faults contents after (g.F.Files.faults c.args.files.now) (g.F.Files.faults c.open_all.new.files)) (counts c.args.settings.now.layout.ranks contents ∷ inputs tally_wrong left faults contents after ∷ last ∷ []) c.tally.result.status
    (c.tally.ensures.all ∙ opened.0, opened.1)
    (job_over tally_wrong left faults c.args.settings.now.layout.ranks contents (map left start) after (last ∷ []) c.tally.result.status held c.tally.ensures.ends)
