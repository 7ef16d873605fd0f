use Rattle.std.proofs.Common.{◌≡◌, ◌∙◌, ◌≤◌, ℕ, Some, ap, arith, length, map, refl, slice_get, string_bytes, subst, sym, inl}
use Rattle.std.proofs.lemmas.List.{length-map}
use Rattle.ygm_io.specs.Content.{NothingLeft}
use Rattle.ygm_run.specs.declared.status.Status.TheVariants.{Done, NoMemory}
use Rattle.ygm_run.specs.BadLines.{tally_wrong}
use Rattle.ygm_run.specs.Ending.{FollowsVerdict, IsNoted, may_write}
use Rattle.ygm_run.specs.Inputs.{AreRests}
use Rattle.ygm_run.specs.Job.{AreExposed}
use Rattle.ygm_run.specs.Notes.{note_text}
use Rattle.ygm_run.specs.Verdict.{tally_verdict}
use Rattle.ygm_run.specs.Words.{asked_in, named, order_of, ranks_in, texts_of}
use Rattle.ygm_run.proofs.Ending.Follows.{follows, follows_any}
use Rattle.ygm_run.proofs.Ending.Opened.{nothing_left_of}
use Rattle.ygm_run.proofs.Ending.Reported.{told}
use Rattle.ygm_run.proofs.Ending.Stages.{RunEnds, accepted, read_if_written}
use Rattle.ygm_run.proofs.running.run.Goals as goal

pub returns-in-Ok-clause-ends : goal.returns-in-Ok-clause-ends
returns-in-Ok-clause-ends g c =
    let left = g.F.Src.Source.left in
    let faults = g.F.Src.Source.faults in
    let content = g.F.Files.content c.args.files.now in
    let order = order_of (texts_of c.args.words.now) in
    let contents = map content (named order) in
    let sources = c.run_tally-ended.result.sources.items in
    told
    (λ status. RunEnds tally_wrong left faults order (ranks_in order) contents sources (g.F.Files.faults c.args.files.now) (g.F.Files.faults c.run_tally-ended.new.files)
    (g.O.Sink.faults c.args.out.now) (g.O.Sink.faults c.run_tally-ended.new.out) status)
    c.run_tally-ended.result.status c.report.result c.report.ensures.same
    (accepted tally_wrong left faults order (asked_in c.in-Ok.order) content sources _ _ _ _ c.run_tally-ended.result.status c.in-Ok.ensures.exact c.run_tally-ended.ensures.ends)
    (λ unwritten. inl refl)

pub returns-in-Ok-clause-text : goal.returns-in-Ok-clause-text
returns-in-Ok-clause-text g c = λ bytes exposed.
    let names = texts_of c.in-Ok.order.names.now in
    let content = g.F.Files.content c.args.files.now in
    let before = g.O.Sink.holds c.args.out.now in
    let now = g.O.Sink.holds c.run_tally-ended.new.out in
    let ended = c.run_tally-ended.result.status in
    let here : AreExposed (map content names) bytes = sym (ap (λ order. map content (named order)) c.in-Ok.ensures.exact) ∙ exposed in
    told (λ status. FollowsVerdict (tally_verdict bytes) status before now) ended c.report.result c.report.ensures.same
    (follows g.F.Src.Source.left g.F.Src.Source.faults c.in-Ok.order.settings.layout.ranks (map content names) c.run_tally-ended.result.sources.items _ _ _ _ ended before now c.run_tally-ended.ensures.ends bytes here (c.run_tally-ended.ensures.text bytes here))
    (λ unwritten. follows_any (tally_verdict bytes) NoMemory before now refl (λ rank line why is. cc))

pub returns-in-Ok-clause-nothing_left : goal.returns-in-Ok-clause-nothing_left
returns-in-Ok-clause-nothing_left g c = λ done.
    let left = g.F.Src.Source.left in
    let faults = g.F.Src.Source.faults in
    let contents = map (g.F.Files.content c.args.files.now) (texts_of c.in-Ok.order.names.now) in
    let sources = c.run_tally-ended.result.sources.items in
    let ended = c.run_tally-ended.result.status in
    told (λ status. status ≡ Done → (rank : ℕ) (source : _) → slice_get sources rank ≡ Some source → NothingLeft (left source)) ended c.report.result c.report.ensures.same
    (λ is.
    let read = read_if_written tally_wrong left faults c.in-Ok.order.settings.layout.ranks contents sources _ _ _ _ ended c.run_tally-ended.ensures.ends (ap may_write is) in
    nothing_left_of left tally_wrong faults contents sources read.0 read.1)
    (λ unwritten is. absurd (let e : NoMemory ≡ Done = is in cc)) done

pub returns-in-Ok-clause-sources : goal.returns-in-Ok-clause-sources
returns-in-Ok-clause-sources g c =
    let sources = c.run_tally-ended.result.sources.items in
    let within : length sources ≤ length (texts_of c.in-Ok.order.names.now) = omega (arith, c.run_tally-ended.ensures.within, length-map c.in-Ok.order.names.now string_bytes) in
    subst
    (λ order. (length sources ≤ length (named order)) × AreRests g.F.Src.Source.left (map (g.F.Files.content c.args.files.now) (named order)) sources)
    (sym c.in-Ok.ensures.exact)
    (within, c.run_tally-ended.ensures.rests)

pub returns-in-Ok-clause-noted : goal.returns-in-Ok-clause-noted
returns-in-Ok-clause-noted g c =
    subst (λ order. IsNoted g.N.Sink.holds g.N.Sink.faults c.args.notes.now c.report.new.notes (note_text c.report.result (named order))) (sym c.in-Ok.ensures.exact) c.report.ensures.noted
