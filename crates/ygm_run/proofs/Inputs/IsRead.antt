-- How a file was read, once its reading has ended.
use Rattle.std.proofs.Common.{◌≡◌, ℕ, ◌≤◌, List, [], Some, None, Option, IfSome, length, refl, sym, ap, ◌∙◌, subst, arith}
use Rattle.std.specs.List.{AllByRecursion}
use Rattle.std.specs.Option.{option_map}
use Rattle.std.proofs.lemmas.List.{append-nil}
use Rattle.std.proofs.lemmas.Option.{IfSome_then}
use Rattle.ygm_io.specs.Content.{ExposedBytes, TakenFrom}
use Rattle.ygm_run.specs.declared.status.InputFault.{InputFault}
use Rattle.ygm_run.specs.declared.status.InputFault.TheVariants.{Read, Bad}
use Rattle.ygm_run.specs.BadLines.{first_wrong, tally_wrong}
use Rattle.line_input.specs.Taken.{LinesTaken}
use Rattle.ygm_run.specs.ReadLines.{EndedWith, StopsAtPiece}
use Rattle.ygm_run.specs.Inputs.{IsRead}
use Rattle.world_core.specs.Limits.{most_letters}
use Rattle.line_input.specs.Limits.{max_line}
use Rattle.line_input.specs.Lines.{ended_lines, raw_lines, first_too_long}
use Rattle.line_input.specs.Reading.{Reading}
use Rattle.line_input.specs.Turns.{to_come}
use Rattle.line_input.proofs.Taken.LinesTaken.{all_given, prefix_read, too_long_given}
use Rattle.ygm_run.proofs.Inputs.GoodLines.{few_good, good_below}
use Rattle.ygm_run.proofs.Inputs.TallyWrong.{first_wrong_of, none_wrong, too_long_at}
use Rattle.line_input.proofs.Lines.FirstTooLong.{none_too_long_of}

-- How a file was read, once its reading has ended.
pub was_read : {S : Type 0} (left : S → ExposedBytes) (faults : S
    → ℕ) (raws : List (List ℕ)) (reader : Reading) (before : ExposedBytes) (source : S) (fault : Option InputFault)
    → AllByRecursion (λ raw. length raw ≤ max_line) raws
    → LinesTaken raws before (to_come reader.held (left source)) → reader.given ≡ length raws → reader.given ≤ most_letters
    → EndedWith fault reader (left source) (faults source)
    → IsRead tally_wrong left faults before source fault
was_read left faults raws reader before source None short taken given bound ended = record {
  read = ((λ e. absurd cc), (λ lt. absurd (omega (arith, lt, ended.2))));
  bad = λ none. IfSome_then before all (λ bytes e. sym (none_wrong (raw_lines bytes) (ap first_too_long e ∙ none_too_long_of raws short)));
  to_its_end = λ none. ended.1;
  before_read = λ e. absurd cc;
  few = λ none. IfSome_then before all (λ bytes e. omega (arith, few_good (raw_lines bytes), ap length e, given, bound));
} where
  all : IfSome before (λ bytes. raw_lines bytes ≡ raws)
  all = all_given raws reader.held before (left source) taken ended.0 ended.1
was_read left faults raws reader before source (Some Read) short taken given bound ended = record {
  read = ((λ e. omega (arith, ended.0)), (λ lt. refl));
  bad = λ none. absurd (omega (arith, none, ended.0));
  to_its_end = λ e. absurd cc;
  before_read = λ e. read_before;
  few = λ none. absurd (omega (arith, none, ended.0));
} where
  read_before : (front : List ℕ) × TakenFrom front before (left source) × (first_wrong tally_wrong (raw_lines front) ≡ None) × (ended_lines front ≤ most_letters)
  read_before =
      let f = prefix_read raws reader.held [] reader.held before (left source) (sym (append-nil reader.held)) ended.1 ended.2 short taken in
      (f.0, subst (λ w. TakenFrom w before (left source)) (append-nil f.0) f.1, none_wrong (raw_lines f.0) f.2, omega (arith, f.3, given, bound))
was_read left faults raws reader before source (Some (Bad line why)) short taken given bound ended = record {
  read = ((λ e. absurd cc), (λ lt. absurd (omega (arith, lt, ended.3))));
  bad = λ none. IfSome_then before bad_line_is (λ bytes e. ap (λ w. Some (line, w)) ended.1 ∙ ap (option_map too_long_at) e ∙ sym (first_wrong_of (raw_lines bytes)));
  to_its_end = λ e. absurd cc;
  before_read = λ e. absurd cc;
  few = λ none. IfSome_then before bad_line_is (λ bytes e. omega (arith, good_below (raw_lines bytes) line (sym e), ended.2, bound));
} where
  bad_line_is : IfSome before (λ bytes. Some line ≡ first_too_long (raw_lines bytes))
  bad_line_is = subst (λ k. IfSome before (λ bytes. Some k ≡ first_too_long (raw_lines bytes))) (omega (arith, given, ended.2)) (too_long_given raws reader.held before (left source) short taken ended.0)

-- A file with a bad line was read no further than the piece that made the line bad.
pub stopped_at_piece : (raws : List (List ℕ)) (reader : Reading) (before left : ExposedBytes) (faults : ℕ) (fault : Option InputFault)
    → AllByRecursion (λ raw. length raw ≤ max_line) raws
    → LinesTaken raws before (to_come reader.held left) → EndedWith fault reader left faults → StopsAtPiece before left fault
stopped_at_piece raws reader before left faults None short taken ended line why e = absurd cc
stopped_at_piece raws reader before left faults (Some Read) short taken ended line why e = absurd cc
stopped_at_piece raws reader before left faults (Some (Bad found reason)) short taken ended line why e =
    let last = ended.5 in
    let f = prefix_read raws ended.4 last.piece reader.held before left last.appended last.partial last.short short taken in
    (f.0, last.piece, last.one, f.1, none_wrong (raw_lines f.0) f.2)
