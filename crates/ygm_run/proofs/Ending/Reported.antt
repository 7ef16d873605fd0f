-- Notes, and what a note that takes memory may change.
use Rattle.std.proofs.Common.{◌≡◌, ◌⊎◌, ℕ, true, false, List, Result, Ok, Err, IfErr, OnOk, refl, sym, ◌∙◌, subst, inl, inr}
use Rattle.ygm_io.specs.Content.{ExposedBytes}
use Rattle.ygm_io.specs.Writes.{AllWritten, PrefixWritten}
use Rattle.ygm_io.specs.declared.writing.WriteFault.{WriteFault as SinkFault}
use Rattle.ygm_run.specs.declared.status.Status.{Status}
use Rattle.ygm_run.specs.declared.status.Status.TheVariants.{Done, Usage, OpenFault, ReadFault, BadLine, WriteFault, NoMemory, CountFull}
use Rattle.ygm_run.specs.Ending.{IsNoted, may_write}
use Rattle.ygm_run.specs.Notes.{note_takes_memory}

-- what was written of a note: the whole of it, or less where the sink failed
pub noted_by : {N : Type 0} (holds : N → ExposedBytes) (faults : N
    → ℕ) (before now : N) (result : Result (Unit {0}) SinkFault) (bytes text : List ℕ) → bytes ≡ text
    → OnOk result (AllWritten bytes (holds before) (holds now) (faults before) (faults now))
    → IfErr result (λ fault. PrefixWritten fault.written bytes (holds before) (holds now) (faults before) (faults now))
    → IsNoted holds faults before now text
noted_by holds faults before now (Ok done) bytes text same all front = subst (IsNoted holds faults before now) same (inl all.all)
noted_by holds faults before now (Err fault) bytes text same all front = subst (IsNoted holds faults before now) same (inr ((fault.written, front.short, front.front), front.cause))

-- a status whose note takes memory is one of a run that writes nothing
pub unwritten_note : (status : Status) → note_takes_memory status ≡ true → may_write status ≡ false
unwritten_note Done takes = cc
unwritten_note (Usage kind) takes = cc
unwritten_note (OpenFault file) takes = refl
unwritten_note (ReadFault rank) takes = refl
unwritten_note (BadLine rank line why) takes = refl
unwritten_note WriteFault takes = cc
unwritten_note NoMemory takes = cc
unwritten_note (CountFull rank at) takes = refl

-- A fact of a status holds of the one that is returned after its note, if lack of memory has it where nothing is written.
pub told : (P : Status → Type 0) (ended now : Status) → (now ≡ ended) ⊎ ((now ≡ NoMemory) × (note_takes_memory ended ≡ true)) → P ended
    → (may_write ended ≡ false → P NoMemory) → P now
told P ended now (inl same) fact lacking = subst P (sym same) fact
told P ended now (inr (none, takes)) fact lacking = subst P (sym none) (lacking (unwritten_note ended takes))

-- the note of refused words takes none
pub usage_told : (now ended : Status) → note_takes_memory ended ≡ false → (now ≡ ended) ⊎ ((now ≡ NoMemory) × (note_takes_memory ended ≡ true))
    → now ≡ ended
usage_told now ended free (inl same) = same
usage_told now ended free (inr (none, takes)) = absurd (let e : false ≡ true = sym free ∙ takes in cc)
