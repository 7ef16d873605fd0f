-- Why jobs have no shards.
use Rattle.std.proofs.Common.{◌≡◌, ◌⊎◌, ℕ, zero, suc, ◌<◌, ◌≤◌, List, [], ◌∷◌, ◌++◌, Some, None, Option, IfSome, IsSome, Err, get_or, length, map, slice_get, sym, ap, ◌∙◌, subst, arith, inl, inr, length-append}
use Rattle.std.proofs.lemmas.Bool.{cases_lt}
use Rattle.std.proofs.lemmas.Option.{slice_get_past, slice_get_within}
use Rattle.ygm_io.specs.Content.{ExposedBytes}
use Rattle.ygm_route.specs.Layout.{Shape}
use Rattle.world_core.specs.Limits.{most_letters}
use Rattle.world_core.specs.Plain.{Plain, state_of}
use Rattle.comm_rank.specs.declared.fault.CommFault.TheVariants.{CountFull as CommFull}
use Rattle.ygm_run.specs.declared.ranks.RankRun.{RankRun}
use Rattle.ygm_run.specs.declared.run_job.JobFault.{JobFault}
use Rattle.ygm_run.specs.declared.run_job.JobFault.TheVariants.{Bad as JobBad, CountFull as JobFull, NoMemory as JobNoMemory, Read as JobRead}
use Rattle.ygm_run.specs.declared.status.InputFault.{InputFault}
use Rattle.ygm_run.specs.declared.status.InputFault.TheVariants.{Bad, Read}
use Rattle.ygm_run.specs.BadLines.{tally_wrong}
use Rattle.ygm_run.specs.Inputs.{IsFullAtRank, IsLowestFault, IsRead}
use Rattle.ygm_run.specs.Job.{lines_of_each}
use Rattle.ygm_run.specs.JobEnds.{JobStops, fault_of}
use Rattle.line_input.specs.Lines.{StartsTooLong, lines_of}
use Rattle.ygm_run.specs.RankJobs.{faults_in, left_in}
use Rattle.ygm_run.specs.RankRuns.{AreRuns, EndsBy, IsByEnd, IsLowestInput, NoneStopped}
use Rattle.line_input.specs.Reading.{Reading}
use Rattle.line_input.specs.Taken.{LinesTaken}
use Rattle.ygm_run.specs.ReadLines.{EndedWith, IsFullFile}
use Rattle.ygm_run.specs.TallyText.{all_lines}
use Rattle.line_input.specs.Turns.{to_come}
use Rattle.ygm_run.proofs.Ending.Follows.{item_at}
use Rattle.ygm_run.proofs.RankRuns.Ended.{bytes_at, content_is, finished, lines_at, read_at}

-- the lines of one file are among all
few_lines : (files : List (List (List ℕ))) (rank : ℕ) → length (get_or files rank []) ≤ length (all_lines files)
few_lines [] rank = omega arith
few_lines (lines ∷ files) zero = omega (arith, length-append lines (all_lines files))
few_lines (lines ∷ files) (suc rank) = omega (arith, few_lines files rank, length-append lines (all_lines files))

nothing_after : (bytes later : List ℕ) → Some [] ≡ Some (bytes ++ later) → later ≡ []
nothing_after [] later e = let f : [] ≡ later = cc in sym f
nothing_after (byte ∷ bytes) later e = absurd (let f : [] ≡ byte ∷ (bytes ++ later) = cc in cc)

-- a rank without a file meets no fault
no_fault : (raws : List (List ℕ)) (reader : Reading) (found : InputFault) → LinesTaken raws (Some []) (to_come reader.held (Some [])) → EndedWith (Some found) reader (Some []) 0 → ⊥
no_fault raws reader Read taken ended = omega (arith, ended.0)
no_fault raws reader (Bad line why) taken ended =
    let e = subst StartsTooLong (nothing_after taken.bytes (reader.held ++ []) taken.taken) ended.0 in cc

-- the fault of a rank's input
abbrev fault_in : Option RankRun → Option InputFault
fault_in None = None
fault_in (Some run) = run.job.fault

module _ {S : Type 0} (left : S → ExposedBytes) (faults : S → ℕ) (layout : Shape) (start : List S) (runs : List RankRun) (links : Plain) (sources : List S)
    (are : AreRuns left faults layout start runs links sources)
    (ended : (rank : ℕ) (run : RankRun) → slice_get runs rank ≡ Some run → IsSome run.ended) where
  full_at : (rank : ℕ) (run : RankRun) (limit : ℕ) → slice_get runs rank ≡ Some run → run.ended ≡ Some (Err (CommFull limit)) → IsFullAtRank (length runs) (map left start) rank limit
  full_at rank run limit at is =
      let full : IsFullFile (left_in left (slice_get start rank)) limit =
      subst (λ how. IsByEnd left faults (left_in left (slice_get start rank)) how run.job run.comm run.barrier (state_of links) (slice_get sources rank)) is (are.each rank run at).by_end in
      record {
        within = slice_get_within runs rank run at;
        limit_is = full.limit_is;
        above = λ bytes exposed.
            let many = subst (λ (content : ExposedBytes). IfSome content (λ file. most_letters < length (lines_of file))) (bytes_at left start bytes rank exposed) full.lines in
            omega (arith, many, ap length (lines_at bytes rank), few_lines (lines_of_each bytes) rank);
      }

  module _ (none_stopped : NoneStopped runs) (few : length sources ≤ length runs) (all : length sources ≡ length start) where
    has_source : (rank : ℕ) (found : InputFault) → IsLowestInput runs rank found → rank < length sources
    has_source rank found lowest = of (cases_lt rank (length sources)) where
      of : (rank < length sources) ⊎ (length sources ≤ rank) → rank < length sources
      of (inl within) = within
      of (inr past) =
          let run = lowest.run in
          let reader = run.job.reader in
          let done = finished left faults layout start runs links sources are ended none_stopped rank run lowest.run_is in
          let none_now = slice_get_past sources rank past in
          let none_first = slice_get_past start rank (omega (arith, past, all)) in
          let raws = done.keeps.raws in
          absurd
          (no_fault raws reader found
          (subst (λ (source : Option S). LinesTaken raws (left_in left source) (to_come reader.held (Some []))) none_first
          (subst (λ (source : Option S). LinesTaken raws (left_in left (slice_get start rank)) (to_come reader.held (left_in left source))) none_now done.keeps.read.taken))
          (subst (λ (fault : Option InputFault). EndedWith fault reader (Some []) 0) lowest.fault
          (subst (λ (source : Option S). EndedWith run.job.fault reader (left_in left source) (faults_in faults source)) none_now done.ended)))

    lowest_fault : (rank : ℕ) (found : InputFault) → IsLowestInput runs rank found → IsLowestFault tally_wrong left faults (map left start) sources rank found
    lowest_fault rank found lowest = record {
      fault = λ one. fault_in (slice_get runs one);
      read = λ one content source at is.
          let run = item_at runs one (omega (arith, slice_get_within sources one source is, few)) in
          subst (λ (bytes : ExposedBytes). IsRead tally_wrong left faults bytes source (fault_in (slice_get runs one))) (content_is left start one content at)
          (subst (λ (now : Option RankRun). IsRead tally_wrong left faults (left_in left (slice_get start one)) source (fault_in now)) (sym run.1)
          (read_at left faults layout start runs links sources are ended none_stopped one run.0 source run.1 is));
      within = has_source rank found lowest;
      here = ap fault_in lowest.run_is ∙ lowest.fault;
      none_below = λ lower lt.
          let run = item_at runs lower (omega (arith, lt, slice_get_within runs rank lowest.run lowest.run_is)) in
          ap fault_in run.1 ∙ lowest.none_below lower run.0 lt run.1;
    }

  pub stops : length sources ≤ length runs → length sources ≡ length start → (fault : JobFault) → EndsBy runs fault →
      JobStops tally_wrong left faults (length runs) (map left start) sources fault
  stops few all (JobFull rank limit) (inl (run, at, is)) = full_at rank run limit at is
  stops few all (JobRead rank) (inl never) = absurd never
  stops few all (JobBad rank line why) (inl never) = absurd never
  stops few all JobNoMemory (inl any) = tt
  stops few all fault (inr (none_stopped, found)) =
      subst (JobStops tally_wrong left faults (length runs) (map left start) sources) (sym found.2)
      (of found.0 found.1 (lowest_fault none_stopped few all found.0 found.1 found.3)) where
        of : (rank : ℕ) (met : InputFault) → IsLowestFault tally_wrong left faults (map left start) sources rank met → JobStops tally_wrong left faults (length runs) (map left start) sources (fault_of rank met)
        of rank Read lowest = lowest
        of rank (Bad line why) lowest = lowest
