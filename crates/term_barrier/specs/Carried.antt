-- What a rank keeps from turn to turn, over its own log alone.
use Rattle.std.specs.Prelude.{◌≡◌, ℕ, ◌<◌, ◌≤◌, ◌==◌, false, List, [], if◌then◌else◌}
use Rattle.msg_codec.specs.declared.letter.Letter.{Letter}
use Rattle.world_core.specs.declared.entry.Entry.{Entry}
use Rattle.world_core.specs.Counts.{counts}
use Rattle.world_core.specs.Local.{Local}
use Rattle.world_core.specs.Post.{PostState}
use Rattle.world_core.specs.World.{Logs, local}
use Rattle.comm_rank.specs.Fold.{Applies}
use Rattle.comm_rank.specs.Rank.{Rank, held_letters, local_of}
use Rattle.term_barrier.specs.Account.{Account, handler_of}
use Rattle.term_barrier.specs.Barriers.{BarrierState}
use Rattle.term_barrier.specs.CompleteRun.{OwnLetters}
use Rattle.term_barrier.specs.CountedPlace.{AreCountedPlaces}
use Rattle.term_barrier.specs.Cuts.{phase_start}
use Rattle.term_barrier.specs.Left.{HasLeft, left_cut}
use Rattle.term_barrier.specs.Polls.{Stands}

-- the cuts of a rank in its own log, by the rounds at which it left its barriers
abbrev pub own_cuts : Local → (ℕ → ℕ) → ℕ → ℕ
own_cuts me rounds barrier = left_cut me (rounds barrier)

-- these rounds, with that at which it left one barrier more
abbrev pub with_round : (ℕ → ℕ) → ℕ → ℕ → ℕ → ℕ
with_round rounds barrier round k = if k == barrier then round else rounds k

-- The phases of a rank in its log, with its own letters, by phase and destination, and the rounds at which it left its
-- barriers. Its phase is the number of barriers that it has left. It has an account of that phase, with the cuts of those
-- barriers. Each Count that it put in the present barrier is at a counted place, and there is none while it is outside.
-- It has no own letters of later phases.
pub record Phases {C : Type 0} (apply : Applies C) (start : C → C) (own : ℕ → ℕ → List Letter) (rounds : ℕ → ℕ)
    (barrier : BarrierState) (me : Rank C) (log : List Entry) : Type 0 where
  pub left : (k : ℕ) → k < barrier.left → HasLeft (local_of me log) k (rounds k)
  pub account : Account (handler_of apply start me) own (own_cuts (local_of me log) rounds) barrier.left
      (held_letters me) log
  pub places : AreCountedPlaces (handler_of apply start me) (own barrier.left)
      (phase_start (own_cuts (local_of me log) rounds) barrier.left) barrier.first (held_letters me) log
  pub none_outside : barrier.inside ≡ false → counts log ≤ barrier.first
  pub none_later : (k to : ℕ) → barrier.left < k → own k to ≡ []

-- What a rank carries through a job: it stands at its post with its barrier, and these are its phases.
pub record Carries {C : Type 0} (apply : Applies C) (start : C → C) (own : ℕ → ℕ → List Letter) (rounds : ℕ → ℕ)
    (barrier : BarrierState) (me : Rank C) (post : PostState) : Type 0 where
  pub stands : Stands apply start barrier me post
  pub phases : Phases apply start own rounds barrier me (post.log me.here)

-- All ranks of a world carry their phases, each at a post where its log is that of the world, and each has left so many
-- barriers.
pub record AllCarry {C : Type 0} (apply : Applies C) (start : C → C) (world : Logs) (barriers : ℕ) (own : OwnLetters)
    (rounds : ℕ → ℕ → ℕ) (states : ℕ → BarrierState) (members : ℕ → Rank C) (posts : ℕ → PostState) : Type 0 where
  pub each : (rank : ℕ) → rank < world.layout.ranks →
      Carries apply start (own rank) (rounds rank) (states rank) (members rank) (posts rank)
  pub of_world : (rank : ℕ) → rank < world.layout.ranks →
      local_of (members rank) ((posts rank).log (members rank).here) ≡ local world rank
  pub left : (rank : ℕ) → rank < world.layout.ranks → (states rank).left ≡ barriers
