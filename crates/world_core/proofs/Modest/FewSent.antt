-- How many letters of its own a log of a sound world has.
use Rattle.std.proofs.Common.{ℕ, ◌≤◌}
use Rattle.world_core.specs.Limits.{most_letters}
use Rattle.world_core.specs.Modest.{IsWorld}
use Rattle.world_core.specs.Pairs.{own_count}
use Rattle.world_core.specs.World.{Logs, log_of}
use Rattle.world_core.proofs.Sound.OnPath.{alone, sound_base}

pub few_own : (world : Logs) → IsWorld world → (rank : ℕ) → own_count rank (log_of world rank) ≤ most_letters
few_own world w rank = (alone world (sound_base world w.sound) rank).few
