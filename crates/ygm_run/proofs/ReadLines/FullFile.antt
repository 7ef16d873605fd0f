-- Where a rank's count is full, its file has more good lines than a rank may send letters.
use Rattle.std.proofs.Common.{ℕ, ◌<◌, ◌≤◌, List, [], ◌∷◌, ◌++◌, Some, None, IfSome, length, ap, arith, length-append}
use Rattle.std.specs.List.{AllByRecursion}
use Rattle.list_facts.proofs.Elements.{all_append}
use Rattle.ygm_io.specs.Content.{ExposedBytes}
use Rattle.line_input.specs.Taken.{HasLine, LinesTaken}
use Rattle.ygm_run.specs.BadLines.{good_lines, tally_wrong}
use Rattle.line_input.specs.Limits.{max_line}
use Rattle.line_input.specs.Lines.{raw_lines}
use Rattle.line_input.proofs.Taken.LinesTaken.{line_cut, lines_more, whole_lines}
use Rattle.ygm_run.proofs.Inputs.GoodLines.{good_before}

-- lines were taken, and one more is to come: so many and one come before any that is too long
pub many_good : (raws : List (List ℕ)) (before now : ExposedBytes) → AllByRecursion (λ raw. length raw ≤ max_line) raws → LinesTaken raws before now → HasLine now → IfSome before (λ bytes. length raws < length (good_lines tally_wrong (raw_lines bytes)))
many_good raws before now short taken (text, rest, line) = of before rest (lines_more raws (line.raw ∷ []) before now rest taken (line_cut line.raw now rest line.partial line.cut)) where
  of : (all rest : ExposedBytes) → LinesTaken (raws ++ line.raw ∷ []) all rest → IfSome all (λ bytes. length raws < length (good_lines tally_wrong (raw_lines bytes)))
  of None rest taken_all = tt
  of (Some bytes) None taken_all = absurd (let e = taken_all.taken in cc)
  of (Some bytes) (Some later) taken_all =
      let good = good_before (raws ++ line.raw ∷ []) (raw_lines later) (all_append (λ raw. length raw ≤ max_line) raws (line.raw ∷ []) short (line.short, tt)) in
      omega (arith, good, length-append raws (line.raw ∷ []), ap (λ w. length (good_lines tally_wrong w)) (whole_lines (raws ++ line.raw ∷ []) bytes later taken_all))
