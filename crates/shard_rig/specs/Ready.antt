-- Ranks that may take turns at their links.
use Rattle.std.specs.Prelude.{◌≡◌, ℕ, ◌≤◌, false, Some, List, [], length, slice_get}
use Rattle.world_core.specs.Post.{PostState}
use Rattle.comm_rank.specs.Agrees.{Belongs, PutsData}
use Rattle.comm_rank.specs.Fold.{Applies}
use Rattle.comm_rank.specs.Rank.{Rank}

-- A rank belongs to the links, and has put data letters alone.
pub record IsReady {C : Type 0} (apply : Applies C) (start : C → C) (me : Rank C) (post : PostState) : Type 0 where
  pub belongs : Belongs apply start me post
  pub data_alone : PutsData (post.log me.here)

-- Each rank has the number of its place, and is ready unless it is stopped. A rank that wasn't added yet did nothing.
pub record AreReady {C : Type 0} (apply : Applies C) (start : C → C) (ranks : List (Rank C)) (post : PostState) : Type 0 where
  pub each : (rank : ℕ) (me : Rank C) → slice_get ranks rank ≡ Some me →
      (me.here ≡ rank) × (me.stopped ≡ false → IsReady apply start me post)
  pub not_added : (rank : ℕ) → length ranks ≤ rank → post.log rank ≡ []
