-- Files that were read to their ends have short lines, and no more than a rank may send letters.
use Rattle.std.proofs.Common.{◌≡◌, ◌⊎◌, ℕ, ◌<◌, ◌≤◌, List, Some, None, Option, All, get_or, length, map, slice_get, refl, sym, ◌∙◌, subst, arith, inl, inr}
use Rattle.std.specs.Option.{option_map}
use Rattle.std.proofs.lemmas.Bool.{cases_lt}
use Rattle.std.proofs.lemmas.List.{length-map}
use Rattle.std.proofs.lemmas.List.Elements.{All-map}
use Rattle.std.proofs.lemmas.Option.{slice_get-get_or}
use Rattle.ygm_io.specs.Content.{ExposedBytes}
use Rattle.world_core.specs.Limits.{most_letters}
use Rattle.ygm_run.specs.BadLines.{first_wrong, tally_wrong}
use Rattle.ygm_run.specs.Inputs.{AllRead, IsRead}
use Rattle.ygm_run.specs.Job.{AreExposed, lines_of_each}
use Rattle.line_input.specs.Limits.{max_line}
use Rattle.line_input.specs.Lines.{AreShort, first_too_long, lines_of, raw_lines, text_of}
use Rattle.ygm_run.proofs.Ending.Follows.{file_at, none_if_all_read, source_at}
use Rattle.ygm_run.proofs.Inputs.GoodLines.{good_of_short}
use Rattle.ygm_run.proofs.Inputs.TallyWrong.{first_wrong_of, too_long_at}
use Rattle.line_input.proofs.Lines.FirstTooLong.{short_of_none}
use Rattle.line_input.proofs.Lines.TextOf.{length-text_of}
use Rattle.ygm_run.proofs.Verdict.FirstBad.{none_at}

-- where no line is bad, none is too long
none_too_long : (raws : List (List ℕ)) → first_wrong tally_wrong raws ≡ None → first_too_long raws ≡ None
none_too_long raws none = of (first_too_long raws) (sym (first_wrong_of raws) ∙ none) where
  of : (found : Option ℕ) → option_map too_long_at found ≡ None → found ≡ None
  of None e = refl
  of (Some number) e = cc

-- the texts of short raw lines are short
texts_short : (raws : List (List ℕ)) → AreShort raws → All (λ line. length line ≤ max_line) (map text_of raws)
texts_short raws short =
    All-map (λ line. length line ≤ max_line) text_of raws (λ k d lt. omega (arith, length-text_of (get_or raws k d), short k d lt))

module _ {S : Type 0} (left : S → ExposedBytes) (faults : S → ℕ) (contents : List ExposedBytes) (sources : List S) (files : List (List ℕ))
    (exposed : AreExposed contents files) (all : length sources ≡ length contents) (read : AllRead tally_wrong left faults contents sources) where
  short_at : (rank : ℕ) (file : List ℕ) → slice_get files rank ≡ Some file → AreShort (raw_lines file)
  short_at rank file at =
      short_of_none (raw_lines file)
      (none_too_long (raw_lines file) (none_at tally_wrong files (none_if_all_read tally_wrong left faults contents files sources exposed all read) rank file at))

  few_at : (rank : ℕ) (file : List ℕ) → slice_get files rank ≡ Some file → length (raw_lines file) ≤ most_letters
  few_at rank file at =
      let source = source_at tally_wrong left faults contents files sources exposed all rank file at in
      let here = read rank (Some file) source.0 (file_at contents files rank file exposed at) source.1 in
      of source.0 here (cases_lt 0 (faults source.0)) where
        of : (source : S) → IsRead tally_wrong left faults (Some file) source None → (0 < faults source) ⊎ (faults source ≤ 0) → length (raw_lines file) ≤ most_letters
        of source here (inl some) = absurd (let e = here.read.1 some in cc)
        of source here (inr none) =
            subst (λ lines. length lines ≤ most_letters) (good_of_short (raw_lines file) (short_at rank file at)) (here.few (omega (arith, none)))

  pub all_short : All (λ lines. All (λ line. length line ≤ max_line) lines) (lines_of_each files)
  all_short =
      All-map (λ lines. All (λ line. length line ≤ max_line) lines) lines_of files
      (λ rank d lt. texts_short (raw_lines (get_or files rank d)) (short_at rank (get_or files rank d) (slice_get-get_or files rank d lt)))

  pub all_few : All (λ lines. length lines ≤ most_letters) (lines_of_each files)
  all_few =
      All-map (λ lines. length lines ≤ most_letters) lines_of files
      (λ rank d lt. omega (arith, few_at rank (get_or files rank d) (slice_get-get_or files rank d lt), length-map (raw_lines (get_or files rank d)) text_of))
