-- Ends of runs, stage by stage.
use Rattle.std.proofs.Common.{◌≡◌, ℕ, ◌<◌, true, false, List, [], ◌∷◌, Option, Result, Ok, length, map, refl, ap, sym, ◌∙◌, subst, inl, inr}
use Rattle.ygm_io.specs.Content.{ExposedBytes}
use Rattle.ygm_run.specs.declared.status.InputFault.{InputFault}
use Rattle.ygm_run.specs.declared.status.InputFault.TheVariants.{Read, Bad}
use Rattle.line_input.specs.declared.why.LineWhy.{LineWhy}
use Rattle.ygm_run.specs.declared.status.Status.{Status}
use Rattle.ygm_run.specs.declared.status.Status.TheVariants.{Done, OpenFault, ReadFault, BadLine, WriteFault, NoMemory, CountFull}
use Rattle.ygm_run.specs.declared.run_job.JobFault.{JobFault}
use Rattle.ygm_run.specs.declared.run_job.JobFault.TheVariants.{Bad as JobBad, CountFull as JobFull, NoMemory as JobNoMemory, Read as JobRead}
use Rattle.ygm_run.specs.declared.words.UsageKind.{UsageKind}
use Rattle.ygm_run.specs.Ending.{Ends, IsWritten, Stage, counts, inputs, may_write, of_input, opens, words, writes}
use Rattle.ygm_run.specs.Inputs.{AllRead, IsLowestFault}
use Rattle.ygm_run.specs.JobEnds.{JobStops, status_of}
use Rattle.ygm_run.specs.Words.{Asked, named, ranks_in}

-- one stage more was passed
pub passed : (stage : Stage) (later : List Stage) (status : Status) → stage.passes → Ends later status → Ends (stage ∷ later) status
passed stage later status passes (inl none) = inl none
passed stage later status passes (inr ends) = inr (inr (passes, ends))

-- a status that isn't one of a run that writes
pub unlike : (status other : Status) → status ≡ other → may_write other ≡ false → may_write status ≡ true → ⊥
unlike status other same unwritten written = let e : false ≡ true = sym unwritten ∙ sym (ap may_write same) ∙ written in cc

-- where nothing is written, no text is
pub nothing_is_written : (status : Status) (text : List ℕ) (before now : ExposedBytes) → may_write status ≡ false → IsWritten status text before now
nothing_is_written status text before now unwritten = record {
  whole = λ done. absurd (unlike status status refl unwritten (ap may_write done));
  front = λ failed. absurd (unlike status status refl unwritten (ap may_write failed));
}

of_input_unwritten : (rank : ℕ) (found : InputFault) → may_write (of_input rank found) ≡ false
of_input_unwritten rank Read = refl
of_input_unwritten rank (Bad line why) = refl

-- a job that stops writes nothing
pub job_unwritten : (fault : JobFault) → may_write (status_of fault) ≡ false
job_unwritten (JobFull rank at) = refl
job_unwritten (JobRead rank) = refl
job_unwritten (JobBad rank line why) = refl
job_unwritten JobNoMemory = refl

of_input_opened : (rank file : ℕ) (found : InputFault) → of_input rank found ≡ OpenFault file → ⊥
of_input_opened rank file Read e = cc
of_input_opened rank file (Bad line why) e = cc

of_input_line : (rank other line : ℕ) (why : LineWhy) (found : InputFault) → of_input other found ≡ BadLine rank line why
    → (other ≡ rank) × (found ≡ Bad line why)
of_input_line rank other line why Read e = absurd (let f : ReadFault other ≡ BadLine rank line why = e in cc)
of_input_line rank other line why (Bad at reason) e = let f : BadLine other at reason ≡ BadLine rank line why = e in (cc, cc)

-- how a run of so many ranks ended after the words, over files of these contents
abbrev pub FilesEnd : {S : Type 0} → (List ℕ → Option LineWhy) → (S → ExposedBytes) → (S → ℕ) → (ranks : ℕ) → List ExposedBytes → List S
    → (opening opening_now writing writing_now : ℕ) → Status → Type 0
FilesEnd wrong left faults ranks contents sources opening opening_now writing writing_now status =
    Ends (opens left faults contents sources opening opening_now ∷ counts ranks contents
    ∷ inputs wrong left faults contents sources ∷ writes writing writing_now ∷ []) status

-- the same, with the words
abbrev pub RunEnds : {S : Type 0} → (List ℕ → Option LineWhy) → (S → ExposedBytes) → (S → ℕ) → Result Asked UsageKind → (ranks : ℕ) → List ExposedBytes → List S
    → (opening opening_now writing writing_now : ℕ) → Status → Type 0
RunEnds wrong left faults order ranks contents sources opening opening_now writing writing_now status =
    Ends (words order sources ∷ opens left faults contents sources opening opening_now ∷ counts ranks contents
    ∷ inputs wrong left faults contents sources ∷ writes writing writing_now ∷ []) status

module _ {S : Type 0} (wrong : List ℕ → Option LineWhy) (left : S → ExposedBytes) (faults : S → ℕ) where
  module _ (ranks : ℕ) (contents : List ExposedBytes) (sources : List S) (later : List Stage) (status : Status) where
    -- a job that has read all files passes its two stages
    pub job_read : AllRead wrong left faults contents sources → Ends later status
        → Ends (counts ranks contents ∷ inputs wrong left faults contents sources ∷ later) status
    job_read read ends =
        passed (counts ranks contents) (inputs wrong left faults contents sources ∷ later) status tt (passed (inputs wrong left faults contents sources) later status read ends)

    -- a job that stops ends at one of them
    pub job_stopped : (fault : JobFault) → status ≡ status_of fault → JobStops wrong left faults ranks contents sources fault
        → Ends (counts ranks contents ∷ inputs wrong left faults contents sources ∷ later) status
    job_stopped (JobFull rank at) same stops = inr (inl (rank, at, same, stops))
    job_stopped (JobRead rank) same stops = inr (inr (tt, inl (rank, Read, same, stops)))
    job_stopped (JobBad rank line why) same stops = inr (inr (tt, inl (rank, Bad line why, same, stops)))
    job_stopped JobNoMemory same stops = inl same

  -- a job ends so over the same files
  pub job_over : (ranks : ℕ) (contents others : List ExposedBytes) (sources : List S) (later : List Stage) (status : Status)
      → others ≡ contents
      → Ends (counts ranks others ∷ inputs wrong left faults others sources ∷ later) status
      → Ends (counts ranks contents ∷ inputs wrong left faults contents sources ∷ later) status
  job_over ranks contents others sources later status over ends =
      subst (λ hs. Ends (counts ranks hs ∷ inputs wrong left faults hs sources ∷ later) status) over ends

  -- the words were accepted, and ask for this
  pub accepted : (order : Result Asked UsageKind) (asked : Asked) (content : List ℕ → ExposedBytes) (sources : List S)
      (opening opening_now writing writing_now : ℕ) (status : Status) → order ≡ Ok asked
      → FilesEnd wrong left faults asked.settings.layout.ranks (map content asked.names) sources opening opening_now writing writing_now status
      → RunEnds wrong left faults order (ranks_in order) (map content (named order)) sources opening opening_now writing writing_now status
  accepted order asked content sources opening opening_now writing writing_now status is ends =
      subst (λ o. RunEnds wrong left faults o (ranks_in o) (map content (named o)) sources opening opening_now writing writing_now status) (sym is) (under ends) where
        under : FilesEnd wrong left faults asked.settings.layout.ranks (map content asked.names) sources opening opening_now writing writing_now status
            → RunEnds wrong left faults (Ok asked) asked.settings.layout.ranks (map content asked.names) sources opening opening_now writing writing_now status
        under (inl none) = inl none
        under (inr later) = inr (inr (refl, later))

  module _ (ranks : ℕ) (contents : List ExposedBytes) (sources : List S) (opening opening_now writing writing_now : ℕ) (status : Status) where
    -- a file that couldn't be opened is one of the files
    pub file_below : FilesEnd wrong left faults ranks contents sources opening opening_now writing writing_now status → (file : ℕ) → status ≡ OpenFault file → file < length contents
    file_below (inl none) file is = absurd (let e : NoMemory ≡ OpenFault file = sym none ∙ is in cc)
    file_below (inr (inl (other, same, first, rose))) file is = let e : OpenFault other ≡ OpenFault file = sym same ∙ is in let f : other ≡ file = cc in subst (λ k. k < length contents) f first.within
    file_below (inr (inr (opened, inl (rank, limit, same, full)))) file is = absurd (let e : CountFull rank limit ≡ OpenFault file = sym same ∙ is in cc)
    file_below (inr (inr (opened, inr (any, inl (rank, found, same, lowest))))) file is = absurd (of_input_opened rank file found (sym same ∙ is))
    file_below (inr (inr (opened, inr (any, inr (read, inl (same, rose)))))) file is = absurd (let e : WriteFault ≡ OpenFault file = sym same ∙ is in cc)
    file_below (inr (inr (opened, inr (any, inr (read, inr (stands, done)))))) file is = absurd (let e : Done ≡ OpenFault file = sym done ∙ is in cc)

    -- a run that writes has opened all files and read them to their ends
    pub read_if_written : FilesEnd wrong left faults ranks contents sources opening opening_now writing writing_now status → may_write status ≡ true → (length sources ≡ length contents) × AllRead wrong left faults contents sources
    read_if_written (inl none) written = absurd (unlike status NoMemory none refl written)
    read_if_written (inr (inl (file, same, first, rose))) written = absurd (unlike status (OpenFault file) same refl written)
    read_if_written (inr (inr (opened, inl (rank, limit, same, full)))) written = absurd (unlike status (CountFull rank limit) same refl written)
    read_if_written (inr (inr (opened, inr (any, inl (rank, found, same, lowest))))) written = absurd (unlike status (of_input rank found) same (of_input_unwritten rank found) written)
    read_if_written (inr (inr (opened, inr (any, inr (read, last))))) written = (opened.0, read)

    -- a bad line that is reported is the fault of the lowest rank with one
    pub lowest_if_bad : FilesEnd wrong left faults ranks contents sources opening opening_now writing writing_now status → (rank line : ℕ) (why : LineWhy) → status ≡ BadLine rank line why
        → (length sources ≡ length contents) × IsLowestFault wrong left faults contents sources rank (Bad line why)
    lowest_if_bad (inl none) rank line why is = absurd (let e : NoMemory ≡ BadLine rank line why = sym none ∙ is in cc)
    lowest_if_bad (inr (inl (file, same, first, rose))) rank line why is = absurd (let e : OpenFault file ≡ BadLine rank line why = sym same ∙ is in cc)
    lowest_if_bad (inr (inr (opened, inl (other, limit, same, full)))) rank line why is = absurd (let e : CountFull other limit ≡ BadLine rank line why = sym same ∙ is in cc)
    lowest_if_bad (inr (inr (opened, inr (any, inl (other, found, same, lowest))))) rank line why is =
        let e = of_input_line rank other line why found (sym same ∙ is) in
        (opened.0, subst (λ k. IsLowestFault wrong left faults contents sources k (Bad line why)) e.0 (subst (λ f. IsLowestFault wrong left faults contents sources other f) e.1 lowest))
    lowest_if_bad (inr (inr (opened, inr (any, inr (read, inl (same, rose)))))) rank line why is = absurd (let e : WriteFault ≡ BadLine rank line why = sym same ∙ is in cc)
    lowest_if_bad (inr (inr (opened, inr (any, inr (read, inr (stands, done)))))) rank line why is = absurd (let e : Done ≡ BadLine rank line why = sym done ∙ is in cc)
