-- The letters that a rank sends by itself, if a job sends one for each line before its first barrier.
use Rattle.std.specs.Prelude.{◌≡◌, ℕ, zero, suc, ◌+◌, List, [], ◌∷◌}
use Rattle.msg_codec.specs.declared.letter.Letter.{Letter}
use Rattle.world_core.specs.Pairs.{of_pair}
use Rattle.ygm_jobs.specs.Input.{Input}

-- the letter for a line: by the number of ranks, the sender, the number of the line, from 0, and the line
abbrev pub LineLetter : Type 0
LineLetter = (ranks here number : ℕ) → List ℕ → Letter

-- those for lines, the first of which has this number
abbrev pub letters_for : LineLetter → (ranks here number : ℕ) → List (List ℕ) → List Letter
letters_for letter ranks here number [] = []
letters_for letter ranks here number (line ∷ lines) =
    letter ranks here number line ∷ letters_for letter ranks here (number + 1) lines

-- letters that a rank sends in the first phase, by phase and destination
abbrev pub in_first_phase : ℕ → List Letter → ℕ → ℕ → List Letter
in_first_phase here letters zero to = of_pair here to letters
in_first_phase here letters (suc phase) to = []

-- the own letters of a rank are one for each of its lines, whatever arrives at it
abbrev pub AreForLines : LineLetter → (ranks here : ℕ) → Input → (ℕ → List Letter) → (ℕ → ℕ → List Letter) → Type 0
AreForLines letter ranks here input arrivals own = (phase to : ℕ) →
    own phase to ≡ in_first_phase here (letters_for letter ranks here 0 input.lines) phase to
