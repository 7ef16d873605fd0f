use Rattle.std.proofs.Common.{rules, inr, ◌≡◌, ◌<◌, ◌+◌, ◌∷◌, ◌++◌, [], Some, true, cond, length, slice_get, string_bytes, refl, ap, sym, ◌∙◌, arith, length-append}
use Rattle.std.specs.Option.{option_map}
use Rattle.std.specs.Result.{is_ok}
use Rattle.std.proofs.lemmas.Option.{slice_get-map, slice_get_read}
use Rattle.std.proofs.lemmas.List.{length-map, take-map}
use Rattle.ygm_io.specs.Rising.{Rose}
use Rattle.ygm_run.specs.Words.{texts_of}
use Rattle.ygm_run.proofs.Ending.Opened.{opened_more}
use Rattle.list_facts.proofs.Places.{each_item_more}
use Rattle.ygm_run.proofs.running.open_all.Goals as goal

pub returns-in-Err-Failed-clause-cause : goal.returns-in-Err-Failed-clause-cause
returns-in-Err-Failed-clause-cause g c =
    let k = c.loop-file.file in
    let before = c.loop-file.invariant in
    let names = texts_of c.args.names.now in
    let content = g.F.Files.content c.args.files.now in
    let lt : k < length c.args.names.now = omega (arith, c.loop-file-test.true) in
    let rose : Rose (g.F.Files.faults c.args.files.now) (g.F.Files.faults c.open_named.new.self) = search rules in
    inr (
      k,
      refl,
      record {
        within = omega (arith, lt, length-map names content, length-map c.args.names.now string_bytes);
        opened_before = before.count;
        unread = before.opened ∙ sym (take-map content k names);
        no_fault = before.fresh;
      },
      rose,
    )

pub loop-file-preserved : goal.loop-file-preserved
loop-file-preserved g c =
    let k = c.loop-file.file in
    let before = c.loop-file.invariant in
    let old = c.loop-file.sources.items in
    let names = c.args.names.now in
    let left = g.F.Src.Source.left in
    let content = g.F.Files.content c.args.files.now in
    let ok : is_ok c.push.result ≡ true = c.if-is_err.ensures.negation in
    let pushed : c.push.new.self.items ≡ old ++ c.in-Ok.source ∷ [] = c.push.ensures.items ∙ ap (λ b. cond b (old ++ c.in-Ok.source ∷ []) old) ok in
    let lt : k < length names = omega (arith, c.loop-file-test.true) in
    let at : slice_get names k ≡ Some c.index-names-file.result = slice_get_read names (length names) k c.index-names-file.result refl lt c.index-names-file.is in
    let text = slice_get-map string_bytes names k ∙ ap (option_map string_bytes) at in
    record {
      opened = opened_more left content (texts_of names) k old _ c.in-Ok.source (string_bytes c.index-names-file.result) pushed before.opened text (c.in-Ok.ensures.opened.bytes ∙ before.same _ ∙ ap content c.as_str.ensures.value);
      fresh = λ rank source found. each_item_more (λ (opened : _). g.F.Src.Source.faults opened ≡ 0) old c.in-Ok.source before.fresh c.in-Ok.ensures.opened.fresh rank source (ap (λ w. slice_get w rank) (sym pushed) ∙ found);
      count = ap length pushed ∙ length-append old (c.in-Ok.source ∷ []) ∙ ap (λ n. n + 1) before.count;
      same = λ name. c.in-Ok.ensures.same name ∙ before.same name;
      stands = c.in-Ok.ensures.opened.stands ∙ before.stands;
    }
