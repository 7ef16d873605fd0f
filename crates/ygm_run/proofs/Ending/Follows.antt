-- What the verdict decides of a run.
use Rattle.std.proofs.Common.{◌≡◌, ◌⊎◌, ℕ, ◌<◌, ◌≤◌, false, List, Some, None, Option, length, slice_get, refl, ap, sym, ◌∙◌, subst, arith, inl, inr}
use Rattle.std.specs.Option.{option_map}
use Rattle.std.proofs.lemmas.Bool.{cases_lt}
use Rattle.std.proofs.lemmas.List.{length-map}
use Rattle.std.proofs.lemmas.Option.{slice_get-map, slice_get_cases, slice_get_within}
use Rattle.ygm_io.specs.Content.{ExposedBytes}
use Rattle.ygm_run.specs.declared.status.InputFault.{InputFault}
use Rattle.ygm_run.specs.declared.status.InputFault.TheVariants.{Read, Bad as BadInput}
use Rattle.line_input.specs.declared.why.LineWhy.{LineWhy}
use Rattle.ygm_run.specs.declared.status.Status.{Status}
use Rattle.ygm_run.specs.declared.status.Status.TheVariants.{BadLine}
use Rattle.ygm_run.specs.BadLines.{first_wrong, tally_wrong}
use Rattle.ygm_run.specs.Ending.{FollowsVerdict, IsWritten, may_write}
use Rattle.ygm_run.specs.Inputs.{AllRead, IsLowestFault, IsRead, bad_line}
use Rattle.ygm_run.specs.Job.{AreExposed, lines_of_each}
use Rattle.line_input.specs.Lines.{raw_lines}
use Rattle.ygm_run.specs.TallyText.{tally_text}
use Rattle.ygm_run.specs.Verdict.{Verdict, bad_or_text, first_bad, tally_verdict}
use Rattle.ygm_run.proofs.Ending.Stages.{FilesEnd, lowest_if_bad, read_if_written, unlike}
use Rattle.ygm_run.proofs.Verdict.FirstBad.{first_bad_at, none_bad}

-- a run that neither writes nor reports a bad line follows any verdict
pub follows_any : (verdict : Verdict) (status : Status) (before now : ExposedBytes) → may_write status ≡ false → ((rank line : ℕ) (why : LineWhy)
    → status ≡ BadLine rank line why → ⊥) → FollowsVerdict verdict status before now
follows_any verdict status before now unwritten other = record {
  written = λ may. absurd (unlike status status refl unwritten may);
  bad_line = λ rank line why is. absurd (other rank line why is);
}

-- the bytes of a file
pub file_at : (contents : List ExposedBytes) (files : List (List ℕ)) (rank : ℕ) (file : List ℕ) → AreExposed contents files
    → slice_get files rank ≡ Some file → slice_get contents rank ≡ Some (Some file)
file_at contents files rank file exposed at = ap (λ (w : List ExposedBytes). slice_get w rank) exposed ∙ slice_get-map Some files rank ∙ ap (option_map Some) at

-- the item of a list at a place within it
pub item_at : {X : Type 0} (xs : List X) (place : ℕ) → place < length xs → (x : X) × (slice_get xs place ≡ Some x)
item_at xs place within = elim (slice_get_cases xs place).1 [
  | inl (x, lt, is, get) ↦ (x, is)
  | inr (past, is) ↦ absurd (omega (arith, past, within))
]

module _ {S : Type 0} (wrong : List ℕ → Option LineWhy) (left : S → ExposedBytes) (faults : S → ℕ) where
  -- where no read of a file failed, its bytes decide its bad line
  pub bad_line_of : (file : List ℕ) (source : S) (fault : Option InputFault) → IsRead wrong left faults (Some file) source fault
      → (fault ≡ Some Read → ⊥) → bad_line fault ≡ first_wrong wrong (raw_lines file)
  bad_line_of file source fault read sound = read.bad (none (cases_lt 0 (faults source))) where
    none : (0 < faults source) ⊎ (faults source ≤ 0) → faults source ≡ 0
    none (inl some) = absurd (sound (read.read.1 some))
    none (inr le) = omega (arith, le)

  module _ (contents : List ExposedBytes) (files : List (List ℕ)) (sources : List S) (exposed : AreExposed contents files) (all : length sources ≡ length contents) where
    -- the source of a file
    pub source_at : (rank : ℕ) (file : List ℕ) → slice_get files rank ≡ Some file → (source : S) × (slice_get sources rank ≡ Some source)
    source_at rank file at =
        let within : rank < length files = slice_get_within files rank file at in
        item_at sources rank (omega (arith, within, all, ap length exposed, length-map files Some))

    -- of files that were all read to their ends none has a bad line
    pub none_if_all_read : AllRead wrong left faults contents sources → first_bad wrong files ≡ None
    none_if_all_read read = none_bad wrong files (λ rank file at.
        let source = source_at rank file at in
        sym (bad_line_of file source.0 None (read rank (Some file) source.0 (file_at contents files rank file exposed at) source.1) (λ e. absurd cc)))

    -- the bad line that is reported is the one that the bytes decide
    pub bad_if_lowest : (rank line : ℕ) (why : LineWhy) → IsLowestFault wrong left faults contents sources rank (BadInput line why)
        → first_bad wrong files ≡ Some (rank, (line, why))
    bad_if_lowest rank line why lowest =
        let file = item_at files rank (omega (arith, lowest.within, all, ap length exposed, length-map files Some)) in
        let source = source_at rank file.0 file.1 in
        let here = subst (IsRead wrong left faults (Some file.0) source.0) lowest.here (lowest.read rank (Some file.0) source.0 (file_at contents files rank file.0 exposed file.1) source.1) in
        first_bad_at wrong files rank file.0 (line, why)
        (λ lower other lt at.
        let below = source_at lower other at in
        let read = subst (IsRead wrong left faults (Some other) below.0) (lowest.none_below lower lt) (lowest.read lower (Some other) below.0 (file_at contents files lower other exposed at) below.1) in
        sym (bad_line_of other below.0 None read (λ e. absurd cc)))
        file.1 (sym (bad_line_of file.0 source.0 (Some (BadInput line why)) here (λ e. absurd cc)))

-- a run of tally writes the verdict's text, or reports the verdict's bad line
pub follows : {S : Type 0} (left : S → ExposedBytes) (faults : S
    → ℕ) (ranks : ℕ) (contents : List ExposedBytes) (sources : List S) (opening opening_now writing writing_now : ℕ) (status : Status) (before now : ExposedBytes)
    → FilesEnd tally_wrong left faults ranks contents sources opening opening_now writing writing_now status
    → (files : List (List ℕ)) → AreExposed contents files → IsWritten status (tally_text (lines_of_each files)) before now
    → FollowsVerdict (tally_verdict files) status before now
follows left faults ranks contents sources opening opening_now writing writing_now status before now ends files exposed written = record {
  written = λ may.
      let read = read_if_written tally_wrong left faults ranks contents sources opening opening_now writing writing_now status ends may in
      (tally_text (lines_of_each files), ap (λ w. bad_or_text w (tally_text (lines_of_each files))) (none_if_all_read tally_wrong left faults contents files sources exposed read.0 read.1), written);
  bad_line = λ rank line why is.
      let lowest = lowest_if_bad tally_wrong left faults ranks contents sources opening opening_now writing writing_now status ends rank line why is in
      ap (λ w. bad_or_text w (tally_text (lines_of_each files))) (bad_if_lowest tally_wrong left faults contents files sources exposed lowest.0 rank line why lowest.1);
}
