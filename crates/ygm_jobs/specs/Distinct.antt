-- The job distinct: each distinct line once, in byte order.
use Rattle.std.specs.Prelude.{◌≡◌, ◌≢◌, ◌↔◌, ℕ, List, [], ◌++◌, AllPairs, Contains, None, Some, IsPermutation, IsSomeAnd, IsSorted, codes, flat_map, map}
use Rattle.std.specs.Borrow.{Bor}
use Rattle.part_hash.specs.Owner.{owner_of_key}
use Rattle.bag_set.specs.Sets.{Items, insert_letter}
use Rattle.ygm_jobs.specs.declared.shard.JobShard.{JobShard}
use Rattle.ygm_jobs.specs.declared.shard.JobShard.TheVariants.{Tally, Distinct, Balance}
use Rattle.ygm_jobs.specs.Input.{Input, all_lines}
use Rattle.ygm_jobs.specs.Items.{byte_order, distinct_items}
use Rattle.ygm_jobs.specs.Job.{Job, two_for_each_line}
use Rattle.ygm_jobs.specs.OwnLetters.{AreForLines, LineLetter}

-- the letter for a line inserts it at its owner
abbrev pub distinct_letter : LineLetter
distinct_letter ranks here number line = insert_letter (owner_of_key line ranks) here line

-- ---- text

-- each item and an LF
abbrev pub item_rows : List (List ℕ) → List ℕ
item_rows items = flat_map (λ item. item ++ codes "\n") items

-- the distinct lines of all files, in byte order
abbrev pub distinct_text : List Input → List ℕ
distinct_text inputs = item_rows (distinct_items (all_lines inputs))

-- a text is a row for each item, and the items are sorted
pub record IsListOf (items : List (List ℕ)) (text : List ℕ) : Type 0 where
  pub sorted : List (List ℕ)
  pub same_items : IsPermutation items sorted
  pub in_order : IsSorted byte_order sorted
  pub rows : text ≡ item_rows sorted

-- items, in some order, are the distinct lines
pub record AreDistinct (items lines : List (List ℕ)) : Type 0 where
  pub once : AllPairs (λ item later. item ≢ later) items
  pub same : (item : List ℕ) → Contains items item ↔ Contains lines item

-- the items of borrowed ones
abbrev pub borrowed_items : List (Bor (List ℕ)) → List (List ℕ)
borrowed_items items = map (λ item. item.now) items

-- the items that a shard of distinct keeps
abbrev pub items_of : JobShard → Items
items_of (Tally counts) = []
items_of (Distinct items) = items
items_of (Balance items) = []

-- those of all shards, one after another
abbrev pub all_items : List JobShard → List (List ℕ)
all_items shards = flat_map items_of shards

-- ---- the job

abbrev pub distinct : Job
distinct = record {
  wrong = λ line. None;
  barriers = 1;
  start = λ ranks here. Distinct [];
  IsOwn = AreForLines distinct_letter;
  text = λ ranks inputs. Some (distinct_text inputs);
  IsText = λ shards text. IsSomeAnd text (IsListOf (all_items shards));
  most = two_for_each_line;
}
