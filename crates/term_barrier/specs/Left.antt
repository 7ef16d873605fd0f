-- When a rank has left a barrier, by the Totals that it took, and the cut of that barrier in its log. Barriers and rounds
-- count from 0.
use Rattle.std.specs.Prelude.{◌≡◌, ℕ, pred, ◌<◌, true, List, ◌++◌, length}
use Rattle.world_core.specs.declared.entry.Entry.{Entry}
use Rattle.world_core.specs.Counts.{before_count}
use Rattle.world_core.specs.Local.{Local}
use Rattle.world_core.specs.Rounds.{ended_below, ends, rounds_known, sums_told}
use Rattle.world_core.specs.World.{Logs, local}

-- A rank has left a barrier at a round: it knows that round, which ends its barrier by the sums that the rank was told, and
-- as many barriers ended before it as this one's number says.
pub record HasLeft (me : Local) (barrier round : ℕ) : Type 0 where
  pub known : round < rounds_known me.here me.log
  pub ended : ends (sums_told me.here me.log) round ≡ true
  pub number : ended_below (sums_told me.here me.log) round ≡ barrier

-- how many barriers a rank has left
abbrev pub barriers_left : Local → ℕ
barriers_left me = ended_below (sums_told me.here me.log) (rounds_known me.here me.log)

-- every rank has left each of so many barriers, at these rounds, by rank and barrier
abbrev pub HaveLeft : Logs → ℕ → (ℕ → ℕ → ℕ) → Type 0
HaveLeft world barriers rounds =
    (rank barrier : ℕ) → rank < world.layout.ranks → barrier < barriers → HasLeft (local world rank) barrier (rounds rank barrier)

-- The cut of a barrier that a rank left at a round: the place of the Count of the round before, which is the first of the
-- two that agree.
abbrev pub left_cut : Local → ℕ → ℕ
left_cut me round = length (before_count (pred round) me.log)

-- the cuts of barriers, by rank and barrier
abbrev pub left_cuts : Logs → (ℕ → ℕ → ℕ) → ℕ → ℕ → ℕ
left_cuts world rounds rank barrier = left_cut (local world rank) (rounds rank barrier)

-- the rank after its log gained these entries
abbrev pub gained : Local → List Entry → Local
gained me entries = record me { log = me.log ++ entries }
