-- How a run ends, as a number and as a note. A name is the list of its bytes.
use Rattle.std.specs.Prelude.{◌≡◌, ℕ, ◌<◌, Bool, true, false, List, [], ◌++◌, codes, decimal, slice_get, unwrap_or}
use Rattle.line_input.specs.Why.{why_text}
use Rattle.ygm_run.specs.declared.status.Status.{Status}
use Rattle.ygm_run.specs.declared.status.Status.TheVariants.{Done, Usage, OpenFault, ReadFault, BadLine, WriteFault, NoMemory, CountFull}
use Rattle.ygm_run.specs.Words.{kind_text}

-- the exit status of the program
abbrev pub number_of : Status → ℕ
number_of Done = 0
number_of (Usage kind) = 1
number_of (OpenFault file) = 2
number_of (ReadFault rank) = 3
number_of (BadLine rank line why) = 4
number_of WriteFault = 5
number_of NoMemory = 6
number_of (CountFull rank at) = 7

-- the name of a file, where it has one
abbrev pub name_of : ℕ → List (List ℕ) → List ℕ
name_of file names = unwrap_or (slice_get names file) []

-- a line that the program writes of itself
abbrev pub note_line : List ℕ → List ℕ
note_line text = codes "ygm_run: " ++ text ++ codes "\n"

-- the note of a status: one line, and none for a run that is done
abbrev pub note_text : Status → List (List ℕ) → List ℕ
note_text Done names = []
note_text (Usage kind) names = note_line (kind_text kind)
note_text (OpenFault file) names = note_line (codes "cannot open " ++ name_of file names)
note_text (ReadFault rank) names = note_line (codes "read failed at rank " ++ decimal rank)
note_text (BadLine rank line why) names = note_line (codes "rank " ++ decimal rank ++ codes " line " ++ decimal line ++ codes ": " ++ why_text why)
note_text WriteFault names = note_line (codes "write failed")
note_text NoMemory names = note_line (codes "out of memory")
note_text (CountFull rank at) names = note_line (codes "rank " ++ decimal rank ++ codes " is at a limit of its counts")

-- if the status names a file, its number is below this count
abbrev pub FileIsBelow : ℕ → Status → Type 0
FileIsBelow count status = (file : ℕ) → status ≡ OpenFault file → file < count

-- whether the note of a status takes memory: the others are the same in each run
abbrev pub note_takes_memory : Status → Bool
note_takes_memory (OpenFault file) = true
note_takes_memory (ReadFault rank) = true
note_takes_memory (BadLine rank line why) = true
note_takes_memory (CountFull rank at) = true
note_takes_memory status = false
