use Rattle.std.proofs.Common.{rules, ◌≡◌, ◌++◌, ◌∙◌, IfOk, codes, decimal, string_bytes, sym}
use Rattle.std.proofs.lemmas.Result.{IfOk-weaker}
use Rattle.ygm_run.specs.declared.status.Status.TheVariants.{BadLine, CountFull}
use Rattle.line_input.specs.Why.{why_text}
use Rattle.ygm_run.specs.Notes.{note_text}
use Rattle.ygm_run.specs.Words.{texts_of}
use Rattle.ygm_run.proofs.Notes.NoteLine.{bad_line_note, count_full_note}
use Rattle.ygm_run.proofs.note.text_of.Goals as goal

pub returns-in-BadLine : goal.returns-in-BadLine
returns-in-BadLine c =
    let rank = decimal c.in-BadLine.rank in
    let line = decimal c.in-BadLine.line in
    let why = why_text c.in-BadLine.why in
    let names = texts_of c.args.names.now in
    let written : IfOk c.format-in-BadLine.result (λ text. string_bytes text ≡ codes "ygm_run: rank " ++ (rank ++ (codes " line " ++ (line ++ (codes ": " ++ (why ++ codes "\n")))))) = search rules in
    rw c.in-BadLine.is
    (IfOk-weaker c.format-in-BadLine.result
    (λ text. string_bytes text ≡ codes "ygm_run: rank " ++ (rank ++ (codes " line " ++ (line ++ (codes ": " ++ (why ++ codes "\n"))))))
    (λ text. string_bytes text ≡ note_text (BadLine c.in-BadLine.rank c.in-BadLine.line c.in-BadLine.why) names)
    (λ text is. is ∙ sym (bad_line_note rank line why)) written)

pub returns-in-CountFull : goal.returns-in-CountFull
returns-in-CountFull c =
    let rank = decimal c.in-CountFull.rank in
    let names = texts_of c.args.names.now in
    let written : IfOk c.format-in-CountFull.result (λ text. string_bytes text ≡ codes "ygm_run: rank " ++ (rank ++ codes " is at a limit of its counts\n")) = search rules in
    rw c.in-CountFull.is
    (IfOk-weaker c.format-in-CountFull.result
    (λ text. string_bytes text ≡ codes "ygm_run: rank " ++ (rank ++ codes " is at a limit of its counts\n"))
    (λ text. string_bytes text ≡ note_text (CountFull c.in-CountFull.rank c.in-CountFull.at) names)
    (λ text is. is ∙ sym (count_full_note rank)) written)
