use Rattle.std.proofs.Common.{◌≡◌, ℕ, List, IfOk, ap, ◌∙◌}
use Rattle.std.proofs.lemmas.Result.{IfOk-weaker}
use Rattle.ygm_run.specs.TallyText.{AreCounts, IsTableOf, all_lines, pairs_of, tally_rows, tally_text}
use Rattle.ygm_run.proofs.TallyText.Table.{table_from_sort, table_of_counts}
use Rattle.ygm_run.proofs.tally_text.table_of.Goals as goal

pub returns : goal.returns
returns c =
    let entries = c.args.entries.items in
    let table : IfOk c.rows_of.result (λ text. IsTableOf (pairs_of entries) text.items) =
    IfOk-weaker c.rows_of.result (λ text. text.items ≡ tally_rows (pairs_of c.deref.result.now)) (λ text. IsTableOf (pairs_of entries) text.items)
    (λ text rows. table_from_sort entries c.sort_unstable.new.self.items text.items c.sort_unstable.ensures.permutation c.sort_unstable.ensures.sorted (rows ∙ ap (λ l. tally_rows (pairs_of l)) c.deref.ensures.value))
    c.rows_of.ensures in
    record {
      sorted_rows = table;
      text_of_counted_lines = IfOk-weaker c.rows_of.result (λ text. IsTableOf (pairs_of entries) text.items) (λ text. (files : List (List (List ℕ))) → AreCounts (pairs_of entries) (all_lines files) → text.items ≡ tally_text files)
          (λ text is files counts. table_of_counts (pairs_of entries) text.items files is counts) table;
    }
