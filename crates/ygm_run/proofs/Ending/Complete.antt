-- Where nothing fails, only memory can run out.
use Rattle.std.proofs.Common.{◌≡◌, ◌⊎◌, ℕ, ◌≤◌, List, Some, None, Option, IsOk, Result, Ok, Err, length, slice_get, refl, ap, sym, subst, arith, inl, inr}
use Rattle.std.proofs.lemmas.List.{length-map}
use Rattle.ygm_io.specs.Content.{ExposedBytes}
use Rattle.ygm_io.specs.Rising.{Rose}
use Rattle.world_core.specs.Limits.{most_letters}
use Rattle.ygm_run.specs.declared.status.InputFault.{InputFault}
use Rattle.ygm_run.specs.declared.status.InputFault.TheVariants.{Read, Bad as BadInput}
use Rattle.line_input.specs.declared.why.LineWhy.{LineWhy}
use Rattle.ygm_run.specs.declared.status.Status.{Status}
use Rattle.ygm_run.specs.declared.status.Status.TheVariants.{Done, NoMemory}
use Rattle.ygm_run.specs.declared.words.UsageKind.{UsageKind}
use Rattle.ygm_run.specs.BadLines.{first_wrong, tally_wrong}
use Rattle.ygm_run.specs.Inputs.{IsFullAtRank, IsLowestFault, IsRead}
use Rattle.ygm_run.specs.Job.{AreExposed, letters_bound, lines_of_each}
use Rattle.line_input.specs.Lines.{raw_lines}
use Rattle.ygm_run.specs.TallyText.{tally_text}
use Rattle.ygm_run.specs.Verdict.{Text, first_bad, tally_verdict}
use Rattle.ygm_run.specs.Words.{Asked}
use Rattle.ygm_run.proofs.Ending.Follows.{file_at, item_at, source_at}
use Rattle.ygm_run.proofs.Ending.Stages.{RunEnds}
use Rattle.ygm_run.proofs.Verdict.FirstBad.{none_at, none_of_text}

some_or_none : (found : ℕ × LineWhy) (line : Option (ℕ × LineWhy)) → line ≡ Some found → line ≡ None → ⊥
some_or_none found None is none = cc
some_or_none found (Some other) is none = cc

-- accepted words aren't refused
not_both : (order : Result Asked UsageKind) (kind : UsageKind) → IsOk order → order ≡ Err kind → ⊥
not_both (Ok asked) kind ok is = cc
not_both (Err other) kind ok is = cc

module _ {S : Type 0} (left : S → ExposedBytes) (faults : S → ℕ) (contents : List ExposedBytes) (sources : List S) (files : List (List ℕ)) (exposed : AreExposed contents files) where
  -- no input has a fault where no read failed and no line is bad
  no_fault : (rank : ℕ) (found : InputFault) → first_bad tally_wrong files ≡ None
      → ((place : ℕ) (source : S) → slice_get sources place ≡ Some source → faults source ≡ 0)
      → length sources ≡ length contents → IsLowestFault tally_wrong left faults contents sources rank found → ⊥
  no_fault rank found good calm all lowest =
      let file = item_at files rank (omega (arith, lowest.within, all, ap length exposed, length-map files Some)) in
      let source = source_at tally_wrong left faults contents files sources exposed all rank file.0 file.1 in
      let read = subst (IsRead tally_wrong left faults (Some file.0) source.0) lowest.here (lowest.read rank (Some file.0) source.0 (file_at contents files rank file.0 exposed file.1) source.1) in
      none found source.0 file.0 read (calm rank source.0 source.1) (none_at tally_wrong files good rank file.0 file.1) where
        none : (fault : InputFault) (source : S) (file : List ℕ) → IsRead tally_wrong left faults (Some file) source (Some fault)
            → faults source ≡ 0 → first_wrong tally_wrong (raw_lines file) ≡ None → ⊥
        none Read source file read calm good = omega (arith, read.read.0 refl, calm)
        none (BadInput line why) source file read calm good = some_or_none (line, why) (first_wrong tally_wrong (raw_lines file)) (sym (read.bad calm)) good

  -- no count is full where the lines of all files are few
  no_full : (ranks rank limit : ℕ) → letters_bound (lines_of_each files) ≤ most_letters → IsFullAtRank ranks contents rank limit → ⊥
  no_full ranks rank limit few full = let many = full.above files exposed in omega (arith, many, few)

  -- where nothing fails, no line is bad and the lines are few, a run is done or out of memory
  pub done_or_no_memory : (order : Result Asked UsageKind) (ranks opening opening_now writing writing_now : ℕ) (status : Status)
      → RunEnds tally_wrong left faults order ranks contents sources opening opening_now writing writing_now status
      → IsOk order → (text : List ℕ) → tally_verdict files ≡ Text text → letters_bound (lines_of_each files) ≤ most_letters
      → (Rose opening opening_now → ⊥) → (Rose writing writing_now → ⊥)
      → ((rank : ℕ) (source : S) → slice_get sources rank ≡ Some source → faults source ≡ 0) → (status ≡ Done) ⊎ (status ≡ NoMemory)
  done_or_no_memory order ranks opening opening_now writing writing_now status ends ok text is few no_open no_write calm = of ends where
    of : RunEnds tally_wrong left faults order ranks contents sources opening opening_now writing writing_now status → (status ≡ Done) ⊎ (status ≡ NoMemory)
    of (inl none) = inr none
    of (inr (inl (kind, same, refused, unopened))) = absurd (not_both order kind ok refused)
    of (inr (inr (accepted, inl (file, same, first, rose)))) = absurd (no_open rose)
    of (inr (inr (accepted, inr (opened, inl (rank, limit, same, full))))) = absurd (no_full ranks rank limit few full)
    of (inr (inr (accepted, inr (opened, inr (any, inl (rank, found, same, lowest)))))) =
        absurd (no_fault rank found (none_of_text (first_bad tally_wrong files) (tally_text (lines_of_each files)) text is) calm opened.0 lowest)
    of (inr (inr (accepted, inr (opened, inr (any, inr (read, inl (same, rose))))))) = absurd (no_write rose)
    of (inr (inr (accepted, inr (opened, inr (any, inr (read, inr (stands, done))))))) = inl done
