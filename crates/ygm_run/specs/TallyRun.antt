-- The job tally over ranks: the letters that each rank sends by itself, and the shards that come of all of them.
use Rattle.std.specs.Prelude.{◌≡◌, ◌==◌, ℕ, zero, suc, ◌<◌, List, [], All, Some, filter, get_or, if◌then◌else◌, length, map, slice_get, sum_by}
use Rattle.list_facts.specs.Sums.{sum_upto}
use Rattle.msg_codec.specs.declared.letter.Letter.{Letter}
use Rattle.comm_rank.specs.Fold.{fold_from}
use Rattle.term_barrier.specs.CompleteRun.{Arrivals, IsCompleteRun, OwnLetters}
use Rattle.counting_set.specs.Counting.{AddsSome, Counts, add_letter, adds_of, counting_apply}
use Rattle.part_hash.specs.Owner.{owner_of_key}
use Rattle.ygm_run.specs.TallyText.{times}

-- The letters of a rank's lines to another rank: for each line that the other owns one that adds one of it, in order.
abbrev pub own_letters : (ranks here : ℕ) → List (List ℕ) → ℕ → List Letter
own_letters ranks here lines to = map (add_letter to here) (filter (λ line. owner_of_key line ranks == to) lines)

-- all own letters of a rank with these lines, by phase and destination: they are sent before its one barrier
abbrev pub tally_letters : (ranks here : ℕ) → List (List ℕ) → ℕ → ℕ → List Letter
tally_letters ranks here lines zero to = own_letters ranks here lines to
tally_letters ranks here lines (suc phase) to = []

-- those of all ranks, one for each of these files; a rank without a file has no lines
abbrev pub tally_letters_of : (ranks : ℕ) → List (List (List ℕ)) → OwnLetters
tally_letters_of ranks files rank = tally_letters ranks rank (get_or files rank [])

-- Letters, by destination, count lines: each adds at least one of an item, and what they add to an item at its owner is the
-- number of lines equal to it. They add nothing to it elsewhere.
pub record CountLines (ranks : ℕ) (lines : List (List ℕ)) (own : ℕ → List Letter) : Type 0 where
  pub adds : (to : ℕ) → to < ranks → All AddsSome (own to)
  pub sums : (to : ℕ) (item : List ℕ) → to < ranks →
      sum_by (adds_of item) (own to) ≡ (if owner_of_key item ranks == to then times item lines else 0)

-- Whatever weights letters have, those that arrive at a rank weigh as much as those that all ranks send to it.
abbrev pub WeighTheSame : (ranks : ℕ) → (own : ℕ → ℕ → List Letter) → (arrivals : ℕ → List Letter) → Type 0
WeighTheSame ranks own arrivals = (weight : Letter → ℕ) (to : ℕ) → to < ranks →
    sum_by weight (arrivals to) ≡ sum_upto (λ from. sum_by weight (own from to)) ranks

-- there is a shard for each rank: what an empty one becomes as the rank's letters arrive
pub record AreFolds (ranks : ℕ) (arrivals : ℕ → List Letter) (shards : List Counts) : Type 0 where
  pub all : length shards ≡ ranks
  pub each : (rank : ℕ) (shard : Counts) → slice_get shards rank ≡ Some shard →
      shard ≡ fold_from counting_apply rank ranks [] (arrivals rank)

-- The shards are those of a tally of files, one file for each rank: each rank sent letters that count its lines, all of them
-- arrived and no others, and the shards are the folds of what arrived. A rank without a file has no lines.
pub record IsTally (ranks : ℕ) (files : List (List (List ℕ))) (shards : List Counts) : Type 0 where
  pub own : ℕ → ℕ → List Letter
  pub arrivals : ℕ → List Letter
  pub count : (from : ℕ) → from < ranks → CountLines ranks (get_or files from []) (own from)
  pub weigh : WeighTheSame ranks own arrivals
  pub folds : AreFolds ranks arrivals shards

-- The shards are those of a complete run of tally over these files: what arrived at the ranks is a complete run of the
-- letters of their lines, and the shards are the folds of it.
pub record IsTallyRun (ranks : ℕ) (files : List (List (List ℕ))) (shards : List Counts) : Type 0 where
  pub arrivals : Arrivals
  pub run : IsCompleteRun counting_apply ranks 1 (λ rank. []) (tally_letters_of ranks files) arrivals
  pub folds : AreFolds ranks (λ rank. arrivals rank 0) shards
