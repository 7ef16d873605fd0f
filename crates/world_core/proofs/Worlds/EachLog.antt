-- The logs of a world after one of them gained an entry.
use Rattle.std.proofs.Common.{ℕ, ◌<◌, List, [], ◌∷◌, ◌++◌, length, inl, inr}
use Rattle.std.proofs.lemmas.Bool.{cases_eq}
use Rattle.world_core.specs.declared.entry.Entry.{Entry}
use Rattle.world_core.specs.World.{Logs, gaining, log_of}
use Rattle.world_core.proofs.Worlds.Link.{log_same, log_other}

-- what holds of each log, where it holds of the old ones and of the one that gained an entry
pub each_log : (world : Logs) (rank : ℕ) (entry : Entry) (P : ℕ → List Entry → Type 0) → rank < length world.logs →
    ((r : ℕ) → P r (log_of world r)) → P rank (log_of world rank ++ entry ∷ []) → (r : ℕ) → P r (log_of (gaining world rank entry) r)
each_log world rank entry P within old new r = elim (cases_eq r rank) [
  | inl same ↦ rw (same, log_same world rank entry within) new
  | inr other ↦ rw (log_other world rank r entry other) (old r)
]
