-- Complete runs of the letters that ranks send by themselves: each of them arrives in its phase, and so does each letter
-- that a handler gives meanwhile, and no other.
use Rattle.std.specs.Prelude.{ℕ, zero, suc, ◌<◌, IsTrue, List, [], ◌++◌}
use Rattle.std.specs.List.{AllByRecursion}
use Rattle.msg_codec.specs.declared.letter.Letter.{Letter}
use Rattle.world_core.specs.Pairs.{is_of_pair, of_pair}
use Rattle.comm_rank.specs.Fold.{Applies, fold_from, handed_from}
use Rattle.term_barrier.specs.Merge.{IsMerge}

-- the letters that ranks send by themselves, by rank, phase and destination
abbrev pub OwnLetters : Type 0
OwnLetters = ℕ → ℕ → ℕ → List Letter

-- the letters that arrive at ranks, by rank and phase
abbrev pub Arrivals : Type 0
Arrivals = ℕ → ℕ → List Letter

-- what arrives at a rank in the phases before this one
abbrev pub earlier : (ℕ → List Letter) → ℕ → List Letter
earlier arrivals zero = []
earlier arrivals (suc phase) = earlier arrivals phase ++ arrivals phase

-- what the handler of a rank gives by the letters of a phase, after it ran those of the phases before
abbrev pub handed_in : {C : Type 0} → Applies C → ℕ → (ℕ → C) → Arrivals → ℕ → ℕ → List Letter
handed_in apply ranks start arrivals rank phase =
    handed_from apply rank ranks (fold_from apply rank ranks (start rank) (earlier (arrivals rank) phase)) (arrivals rank phase)

-- a data letter for this rank, from a rank of the world
pub record IsArrival (ranks here : ℕ) (l : Letter) : Type 0 where
  pub sender : l.from < ranks
  pub pair : IsTrue (is_of_pair l.from here l)

-- In each phase, what arrives at a rank from another is a merge: of the letters that the other sends there by itself, and
-- of those that the other's handler gives for it.
pub record IsCompleteRun {C : Type 0} (apply : Applies C) (ranks phases : ℕ) (start : ℕ → C) (own : OwnLetters) (arrivals : Arrivals) : Type 0 where
  pub letters : (rank phase : ℕ) → rank < ranks → phase < phases → AllByRecursion (IsArrival ranks rank) (arrivals rank phase)
  pub merged : (from to phase : ℕ) → from < ranks → to < ranks → phase < phases →
      IsMerge (own from phase to) (of_pair from to (handed_in apply ranks start arrivals from phase)) (of_pair from to (arrivals to phase))
