-- Only private functions cite this module: what plain links keep of each link, and what calls do to that.
use Rattle.std.specs.Prelude.{◌≡◌, ◌≢◌, ℕ, ◌+◌, ◌*◌, ◌<◌, ◌≤◌, Bool, List, [], ◌∷◌, ◌++◌, length, drop, map, slice_index_or, slice_set}
use Rattle.msg_codec.specs.declared.letter.Letter.{Letter}
use Rattle.world_core.specs.declared.entry.Entry.TheVariants.{Put}
use Rattle.world_core.specs.Log.{batches_put}
use Rattle.world_core.specs.Modest.{IsWorld}
use Rattle.rising_counts.specs.Rising.{Rose, next_count}
use Rattle.world_core.specs.World.{Logs, gaining, link, log_of}

-- what the code keeps of one link: its batches, how many it has carried, and the memory reserved for more
pub record Kept : Type 0 where
  pub batches : List (List Letter)
  pub carried : ℕ
  pub room : ℕ

-- the batches in links, and how many each has carried
abbrev pub batches_in : List Kept → List (List (List Letter))
batches_in links = map (λ link. link.batches) links

abbrev pub carried_by : List Kept → List ℕ
carried_by links = map (λ link. link.carried) links

abbrev pub batches_at : List Kept → ℕ → List (List Letter)
batches_at links place = slice_index_or (batches_in links) place []

abbrev pub carried_at : List Kept → ℕ → ℕ
carried_at links place = slice_index_or (carried_by links) place 0

-- links with the same batches
pub record SameLinks (old new : List Kept) : Type 0 where
  pub batches : batches_in new ≡ batches_in old
  pub carried : carried_by new ≡ carried_by old

-- one link got a batch
pub record LinkGot (place : ℕ) (batch : List Letter) (old new : List Kept) : Type 0 where
  pub batches : batches_in new ≡ slice_set (batches_in old) place (batches_at old place ++ batch ∷ [])
  pub carried : carried_by new ≡ slice_set (carried_by old) place (carried_at old place + 1)

-- one link gave its oldest batch away
pub record LinkGave (place : ℕ) (batch : List Letter) (old new : List Kept) : Type 0 where
  pub oldest : batches_at old place ≡ batch ∷ drop 1 (batches_at old place)
  pub batches : batches_in new ≡ slice_set (batches_in old) place (drop 1 (batches_at old place))
  pub carried : carried_by new ≡ carried_by old

-- a batch went into a link and, as letters, into the log of the world
pub record PutAt (place from to : ℕ) (letters batch : List Letter) (old new : List Kept) (before after : Logs) : Type 0 where
  pub link : LinkGot place batch old new
  pub log : after ≡ gaining before from (Put to letters)
  pub sound : IsWorld after

-- nothing changed, and the batch comes back
pub record NotPutAt (batch returned : List Letter) (old new : List Kept) (before after : Logs) : Type 0 where
  pub links : SameLinks old new
  pub world : after ≡ before
  pub back : returned ≡ batch

-- the count of one rank has one more, and the others are unchanged
pub record Counted (rank : ℕ) (old new : List ℕ) : Type 0 where
  pub one_more : slice_index_or new rank 0 ≡ next_count (slice_index_or old rank 0)
  pub rose : Rose (slice_index_or old rank 0) (slice_index_or new rank 0)
  pub never_falls : slice_index_or old rank 0 ≤ slice_index_or new rank 0
  pub others : (other : ℕ) → other ≢ rank → slice_index_or new other 0 ≡ slice_index_or old other 0

-- The links have the batches and the counts that the logs of a sound world say. Those of one sender are next to each
-- other.
pub record AreLinks (world : Logs) (n : ℕ) (batches : List (List (List Letter))) (carried : List ℕ) : Type 0 where
  pub sound : IsWorld world
  pub ranks : world.layout.ranks ≡ n
  pub all_links : length batches ≡ n * n
  pub all_counts : length carried ≡ n * n
  pub contained : (from to : ℕ) → from < n → to < n → slice_index_or batches (from * n + to) [] ≡ link world from to
  pub counted : (from to : ℕ) → from < n → to < n → slice_index_or carried (from * n + to) 0 ≡ length (batches_put to (log_of world from))

-- what plain links keep
pub record IsPost (world : Logs) (n : ℕ) (kept : List Kept) (raised : List Bool) (fulls misses : List ℕ) : Type 0 where
  pub links : AreLinks world n (batches_in kept) (carried_by kept)
  pub flags : length raised ≡ n
  pub full_counts : length fulls ≡ n
  pub miss_counts : length misses ≡ n
