-- What the job tally writes: for each distinct line, in byte order, the number of lines equal to it and the line.
use Rattle.std.specs.Prelude.{◌≡◌, ℕ, List, [], ◌∷◌, ◌++◌, IsPermutation, IsSorted, bytes_eq, codes, count_by, decimal, flat_map, map}
use Rattle.std.specs.BTreeSet.{insert_key}
use Rattle.std.specs.Cmp.Lexicographic.{slice_cmp}
use Rattle.std.specs.Ordering.{nat_cmp, ordering_then}
use Rattle.std.specs.declared.cmp.Ordering.{Ordering}
use Rattle.std.specs.declared.cmp.Ordering.TheVariants.{Less}
use Rattle.std.specs.Borrow.{Bor}
use Rattle.counting_set.specs.Counting.{HasCounts}

-- the order of lists of bytes
abbrev pub byte_order : List ℕ → List ℕ → Ordering
byte_order = slice_cmp nat_cmp

-- an item comes before another in byte order
abbrev pub IsBefore : List ℕ → List ℕ → Type 0
IsBefore item other = byte_order item other ≡ Less

-- the lines of all files, one file after another
abbrev pub all_lines : List (List (List ℕ)) → List (List ℕ)
all_lines files = flat_map (λ lines. lines) files

-- how many lines are equal to an item
abbrev pub times : List ℕ → List (List ℕ) → ℕ
times item lines = count_by (λ line. bytes_eq item line) lines

-- the items among the lines, each once and in byte order
abbrev pub distinct_items : List (List ℕ) → List (List ℕ)
distinct_items [] = []
distinct_items (line ∷ lines) = insert_key byte_order (distinct_items lines) line

-- a count in decimal, TAB, an item, LF
abbrev pub tally_row : List ℕ → ℕ → List ℕ
tally_row item count = decimal count ++ codes "\t" ++ item ++ codes "\n"

-- a row for each pair of an item and a count
abbrev pub tally_rows : List (List ℕ × ℕ) → List ℕ
tally_rows counted = flat_map (λ pair. tally_row pair.0 pair.1) counted

-- the order of pairs: by item, and by count where the items are equal
abbrev pub pair_order : List ℕ × ℕ → List ℕ × ℕ → Ordering
pair_order pair other = ordering_then (byte_order pair.0 other.0) (nat_cmp pair.1 other.1)

-- a text is a row for each pair, and the pairs are sorted
pub record IsTableOf (counted : List (List ℕ × ℕ)) (text : List ℕ) : Type 0 where
  pub sorted : List (List ℕ × ℕ)
  pub same_pairs : IsPermutation counted sorted
  pub in_order : IsSorted pair_order sorted
  pub rows : text ≡ tally_rows sorted

-- the rows of items, each with the number of lines equal to it
abbrev pub table_with : List (List ℕ) → List (List ℕ) → List ℕ
table_with items lines = flat_map (λ item. tally_row item (times item lines)) items

-- a row for each distinct line of all files, in byte order, with the number of lines equal to it
abbrev pub tally_text : List (List (List ℕ)) → List ℕ
tally_text files = table_with (distinct_items (all_lines files)) (all_lines files)

-- the pairs of an item and a count, in some order, are the distinct lines with their numbers
abbrev pub AreCounts : List (List ℕ × ℕ) → List (List ℕ) → Type 0
AreCounts counted lines = HasCounts counted (λ item. times item lines)

-- the pairs of entries, which borrow their items
abbrev pub pairs_of : List (Bor (List ℕ) × ℕ) → List (List ℕ × ℕ)
pairs_of entries = map (λ entry. (entry.0.now, entry.1)) entries
