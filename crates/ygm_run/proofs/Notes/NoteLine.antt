-- The lines of notes, piece by piece as they are written.
use Rattle.std.proofs.Common.{◌≡◌, ℕ, List, ◌++◌, append_assoc, codes}
use Rattle.ygm_run.specs.Notes.{note_line}

pub bad_line_note : (rank line why : List ℕ)
    → note_line (codes "rank " ++ rank ++ codes " line " ++ line ++ codes ": " ++ why)
    ≡ codes "ygm_run: rank " ++ (rank ++ (codes " line " ++ (line ++ (codes ": " ++ (why ++ codes "\n")))))
bad_line_note rank line why = simp append_assoc

pub count_full_note : (rank : List ℕ)
    → note_line (codes "rank " ++ rank ++ codes " is at a limit of its counts")
    ≡ codes "ygm_run: rank " ++ (rank ++ codes " is at a limit of its counts\n")
count_full_note rank = simp append_assoc
