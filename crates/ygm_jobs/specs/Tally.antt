-- The job tally: for each distinct line, in byte order, the number of lines equal to it and the line.
use Rattle.std.specs.Prelude.{◌≡◌, ◌==◌, ℕ, ◌<◌, List, [], ◌++◌, All, Option, None, Some, IsPermutation, IsSomeAnd, IsSorted, codes, decimal, flat_map, if◌then◌else◌, map, sum_by}
use Rattle.std.specs.Borrow.{Bor}
use Rattle.std.specs.Ordering.{nat_cmp, ordering_then}
use Rattle.std.specs.declared.cmp.Ordering.{Ordering}
use Rattle.msg_codec.specs.declared.letter.Letter.{Letter}
use Rattle.part_hash.specs.Owner.{owner_of_key}
use Rattle.counting_set.specs.Counting.{AddsSome, Counts, HasCounts, add_letter, adds_of}
use Rattle.ygm_jobs.specs.declared.shard.JobShard.{JobShard}
use Rattle.ygm_jobs.specs.declared.shard.JobShard.TheVariants.{Tally, Distinct, Balance}
use Rattle.ygm_jobs.specs.Input.{Input, all_lines}
use Rattle.ygm_jobs.specs.Items.{byte_order, distinct_items, times}
use Rattle.ygm_jobs.specs.Job.{Job, two_for_each_line}
use Rattle.ygm_jobs.specs.OwnLetters.{AreForLines, LineLetter}

-- ---- letters

-- the letter for a line adds one of it at its owner
abbrev pub tally_letter : LineLetter
tally_letter ranks here number line = add_letter (owner_of_key line ranks) here line

-- Letters, by destination, count lines: each adds at least one of an item, and what they add to an item at its owner is
-- the number of lines equal to it. They add nothing to it elsewhere.
pub record CountLines (ranks : ℕ) (lines : List (List ℕ)) (own : ℕ → List Letter) : Type 0 where
  pub adds : (to : ℕ) → to < ranks → All AddsSome (own to)
  pub sums : (to : ℕ) (item : List ℕ) → to < ranks →
      sum_by (adds_of item) (own to) ≡ (if owner_of_key item ranks == to then times item lines else 0)

-- ---- text

-- a count in decimal, TAB, an item, LF
abbrev pub tally_row : List ℕ → ℕ → List ℕ
tally_row item count = decimal count ++ codes "\t" ++ item ++ codes "\n"

-- a row for each pair of an item and a count
abbrev pub tally_rows : List (List ℕ × ℕ) → List ℕ
tally_rows counted = flat_map (λ pair. tally_row pair.0 pair.1) counted

-- the rows of items, each with the number of lines equal to it
abbrev pub table_with : List (List ℕ) → List (List ℕ) → List ℕ
table_with items lines = flat_map (λ item. tally_row item (times item lines)) items

-- a row for each distinct line of all files, in byte order, with the number of lines equal to it
abbrev pub tally_text : List Input → List ℕ
tally_text inputs = table_with (distinct_items (all_lines inputs)) (all_lines inputs)

-- the order of pairs: by item, and by count where the items are equal
abbrev pub pair_order : List ℕ × ℕ → List ℕ × ℕ → Ordering
pair_order pair other = ordering_then (byte_order pair.0 other.0) (nat_cmp pair.1 other.1)

-- a text is a row for each pair, and the pairs are sorted
pub record IsTableOf (counted : List (List ℕ × ℕ)) (text : List ℕ) : Type 0 where
  pub sorted : List (List ℕ × ℕ)
  pub same_pairs : IsPermutation counted sorted
  pub in_order : IsSorted pair_order sorted
  pub rows : text ≡ tally_rows sorted

-- the pairs of an item and a count, in some order, are the distinct lines with their numbers
abbrev pub AreCounts : List (List ℕ × ℕ) → List (List ℕ) → Type 0
AreCounts counted lines = HasCounts counted (λ item. times item lines)

-- the pairs of entries, which borrow their items
abbrev pub pairs_of : List (Bor (List ℕ) × ℕ) → List (List ℕ × ℕ)
pairs_of entries = map (λ entry. (entry.0.now, entry.1)) entries

-- the counts that a shard of tally keeps
abbrev pub counts_of : JobShard → Counts
counts_of (Tally counts) = counts
counts_of (Distinct items) = []
counts_of (Balance items) = []

-- those of all shards, one after another
abbrev pub all_counts : List JobShard → List (List ℕ × ℕ)
all_counts shards = flat_map counts_of shards

-- ---- the job

abbrev pub tally : Job
tally = record {
  wrong = λ line. None;
  barriers = 1;
  start = λ ranks here. Tally [];
  IsOwn = AreForLines tally_letter;
  text = λ ranks inputs. Some (tally_text inputs);
  IsText = λ shards text. IsSomeAnd text (IsTableOf (all_counts shards));
  most = two_for_each_line;
}
