-- How logs are cut into phases. A cut is a place of a log: the number of entries before it. Each phase of a rank begins
-- at the cut that ended the phase before, and phase 0 at the beginning of the log.
use Rattle.std.specs.Prelude.{◌≡◌, ℕ, zero, suc, ◌<◌, List, drop, take}
use Rattle.msg_codec.specs.declared.letter.Letter.{Letter}
use Rattle.world_core.specs.declared.entry.Entry.{Entry}
use Rattle.world_core.specs.Pairs.{arrived, pair_put, pair_taken}

-- where a phase begins, by the cut that ends each
abbrev pub phase_start : (ℕ → ℕ) → ℕ → ℕ
phase_start cut zero = 0
phase_start cut (suc phase) = cut phase

-- the entries between two places of a log, and those of a phase
abbrev pub between : ℕ → ℕ → List Entry → List Entry
between begin end log = drop begin (take end log)

abbrev pub phase_part : (ℕ → ℕ) → ℕ → List Entry → List Entry
phase_part cut phase log = between (phase_start cut phase) (cut phase) log

-- the letters that arrived at a rank in a phase, by the logs of all ranks and their cuts
abbrev pub arrivals_of : (ℕ → List Entry) → (ℕ → ℕ → ℕ) → ℕ → ℕ → List Letter
arrivals_of logs cuts rank phase = arrived rank (phase_part (cuts rank) phase (logs rank))

-- A cut of each log is quiet where of each pair of ranks the one took before it exactly what the other put before it.
abbrev pub IsQuietCut : ℕ → (ℕ → List Entry) → (ℕ → ℕ) → Type 0
IsQuietCut ranks logs cut = (from to : ℕ) → from < ranks → to < ranks →
    pair_put from to (take (cut from) (logs from)) ≡ pair_taken from to (take (cut to) (logs to))

-- the cut that ends a phase is quiet, for each of so many phases
abbrev pub AreQuietCuts : ℕ → ℕ → (ℕ → List Entry) → (ℕ → ℕ → ℕ) → Type 0
AreQuietCuts ranks phases logs cuts = (phase : ℕ) → phase < phases → IsQuietCut ranks logs (λ rank. cuts rank phase)
