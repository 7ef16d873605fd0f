-- The text of counted items, in byte order, is that of the lines that they count.
use Rattle.std.proofs.Common.{◌≡◌, ◌≢◌, ◌↔◌, ℕ, ◌+◌, ◌<◌, List, [], ◌∷◌, ◌++◌, map, length, get_or, AllPairs, Contains, IsPermutation, IsSorted, flat_map, bytes_eq, Bool, false, Ordering, Less, Equal, Greater, nat_cmp, is_lt, refl, sym, ap, ap₂, ◌∙◌, subst, arith}
use Rattle.std.specs.List.{All, IsDistinct}
use Rattle.std.specs.Ordering.{ordering_then, ordering_reverse}
use Rattle.std.proofs.lemmas.Cmp.{nat_list_cmp_total, nat_list_eq_equiv}
use Rattle.std.proofs.lemmas.List.{get_or-map, length-map}
use Rattle.std.proofs.lemmas.List.Elements.{All-head, All-tail, All-contains_itself}
use Rattle.std.proofs.lemmas.List.Folds.{flat_map-map}
use Rattle.std.proofs.lemmas.List.Sorted.{IsPermutation-sym, IsPermutation-map, Contains-permutation}
use Rattle.std.proofs.lemmas.Map.Keys.{IsDistinct-from_apart, apart_from_distinct, IsDistinct-IsPermutation, sorted_from_all_adjacent}
use Rattle.std.proofs.lemmas.Map.Lookups.{exact_bytes}
use Rattle.std.specs.Borrow.{Bor}
use Rattle.ygm_run.specs.TallyText.{AreCounts, IsBefore, IsTableOf, all_lines, byte_order, distinct_items, pair_order, pairs_of, table_with, tally_row, tally_rows, tally_text, times}
use Rattle.ygm_run.proofs.TallyText.Times.{Contains-from_times, times_from_Contains, times-IsPermutation}
use Rattle.ygm_run.proofs.TallyText.DistinctItems.{Rises, same_items, Rises-distinct_items, Contains-distinct_items}
use Rattle.list_facts.proofs.Equal.{bytes_eq-differ, bytes_eq-other}
use Rattle.list_facts.proofs.Members.{Contains-map, from_map}

abbrev pub Pair : Type 0
Pair = List ℕ × ℕ

abbrev items_of : List Pair → List (List ℕ)
items_of counted = map (λ pair. pair.0) counted

-- ---- in another order

same_pair_item : Pair → Pair → Bool
same_pair_item pair other = bytes_eq pair.0 other.0

once_in_other_order : (counted sorted : List Pair) → IsPermutation counted sorted → AllPairs (λ pair later. pair.0 ≢ later.0) counted → AllPairs (λ pair later. pair.0 ≢ later.0) sorted
unfolding same_pair_item
once_in_other_order counted sorted moved once i j d less within =
    let apart : IsDistinct same_pair_item counted = IsDistinct-from_apart same_pair_item counted (λ a b e h k. bytes_eq-other (get_or counted a e).0 (get_or counted b e).0 (once a b e h k)) in
    let still : IsDistinct same_pair_item sorted = IsDistinct-IsPermutation same_pair_item (λ p q. nat_list_eq_equiv.symm p.0 q.0) counted sorted moved apart in
    bytes_eq-differ _ _ (apart_from_distinct same_pair_item sorted i j d still less within)

pub AreCounts-permutation : (counted sorted : List Pair) (lines : List (List ℕ)) → IsPermutation counted sorted → AreCounts counted lines → AreCounts sorted lines
AreCounts-permutation counted sorted lines moved h = record {
  distinct = once_in_other_order counted sorted moved h.distinct;
  counted = λ item count. (
    λ among. (h.counted item count).0 (Contains-permutation sorted counted (item, count) (IsPermutation-sym counted sorted moved) among),
    λ is. Contains-permutation counted sorted (item, count) moved ((h.counted item count).1 is),
  );
}

-- ---- in order

rises_at : (p q : Pair) → is_lt (pair_order q p) ≡ false → p.0 ≢ q.0 → (o : Ordering) → byte_order q.0 p.0 ≡ o → IsBefore p.0 q.0
rises_at p q up other Less h = let below = ap (λ o. is_lt (ordering_then o (nat_cmp q.1 p.1))) h in cc
rises_at p q up other Equal h = absurd (other (sym (exact_bytes q.0 p.0 h)))
rises_at p q up other Greater h = nat_list_cmp_total.antisymm p.0 q.0 ∙ ap ordering_reverse h

-- sorted pairs of different items rise
rises_from_sorted : (sorted : List Pair) → IsSorted pair_order sorted → AllPairs (λ pair later. pair.0 ≢ later.0) sorted → Rises (items_of sorted)
rises_from_sorted sorted up once =
    let none : Pair = ([], 0) in
    sorted_from_all_adjacent nat_list_cmp_total (items_of sorted) []
    (λ k within.
    let inside : k + 1 < length sorted = omega (arith, length-map sorted (λ (p : Pair). p.0)) in
    let at = get_or-map (λ (p : Pair). p.0) sorted k none [] (omega arith) in
    let next = get_or-map (λ (p : Pair). p.0) sorted (k + 1) none [] inside in
    let rise = rises_at (get_or sorted k none) (get_or sorted (k + 1) none) (up k none (omega arith) inside) (once k (k + 1) none (omega arith) inside) _ refl in
    ap₂ byte_order at next ∙ rise)

-- ---- the text

-- the items of counted lines are the lines
items_stand : (counted : List Pair) (lines : List (List ℕ)) → AreCounts counted lines → (item : List ℕ) → Contains (items_of counted) item → Contains lines item
items_stand counted lines h item among =
    let found = from_map (λ (p : Pair). p.0) counted item among in
    let counts = (h.counted found.0.0 found.0.1).0 found.1 in
    subst (Contains lines) found.2 (Contains-from_times found.0.0 lines (subst (λ n. 0 < n) counts.0 counts.1))

lines_are_items : (counted : List Pair) (lines : List (List ℕ)) → AreCounts counted lines → (item : List ℕ) → Contains lines item → Contains (items_of counted) item
lines_are_items counted lines h item among =
    Contains-map (λ (p : Pair). p.0) counted (item, times item lines) ((h.counted item (times item lines)).1 (refl, times_from_Contains item lines among))

-- rows of pairs are the rows of the items, where each count is the number of lines equal to the item
rows_with_times : (counted : List Pair) (lines : List (List ℕ)) → All (λ pair. pair.1 ≡ times pair.0 lines) counted → tally_rows counted ≡ flat_map (λ (pair : Pair). tally_row pair.0 (times pair.0 lines)) counted
rows_with_times [] lines h = refl
rows_with_times (pair ∷ counted) lines h =
    let first = All-head (λ (p : Pair). p.1 ≡ times p.0 lines) pair counted h in
    let rest = rows_with_times counted lines (All-tail (λ (p : Pair). p.1 ≡ times p.0 lines) pair counted h) in
    λ i. tally_row pair.0 (first i) ++ rest i

-- rising items that are the lines are the distinct items
pub table_is_text : (items : List (List ℕ)) (files : List (List (List ℕ))) → Rises items → ((item : List ℕ) → Contains items item ↔ Contains (all_lines files) item) → tally_text files ≡ table_with items (all_lines files)
table_is_text items files rises same =
    let lines = all_lines files in
    ap (λ l. table_with l lines)
    (same_items (distinct_items lines) items (Rises-distinct_items lines) rises
    (λ q among. (same q).1 ((Contains-distinct_items lines q).0 among))
    (λ q among. (Contains-distinct_items lines q).1 ((same q).0 among)))

-- the table of counts is the text of the lines that they count
pub table_of_counts : (counted : List Pair) (text : List ℕ) (files : List (List (List ℕ))) → IsTableOf counted text → AreCounts counted (all_lines files) → text ≡ tally_text files
table_of_counts counted text files table counts =
    let lines = all_lines files in
    let h = AreCounts-permutation counted table.sorted lines table.same_pairs counts in
    let right : All (λ pair. pair.1 ≡ times pair.0 lines) table.sorted =
    λ k d within. ((h.counted (get_or table.sorted k d).0 (get_or table.sorted k d).1).0 (All-contains_itself table.sorted k d within)).0 in
    table.rows
    ∙ rows_with_times table.sorted lines right
    ∙ sym (flat_map-map (λ item. tally_row item (times item lines)) (λ (p : Pair). p.0) table.sorted)
    ∙ sym (table_is_text (items_of table.sorted) files (rises_from_sorted table.sorted table.in_order h.distinct) (λ item. (items_stand table.sorted lines h item, lines_are_items table.sorted lines h item)))

-- the order of the lines doesn't matter
pub text_of_permutation : (files others : List (List (List ℕ))) → IsPermutation (all_lines files) (all_lines others) → tally_text files ≡ tally_text others
text_of_permutation files others moved =
    let lines = all_lines files in
    let same : distinct_items lines ≡ distinct_items (all_lines others) =
    same_items (distinct_items lines) (distinct_items (all_lines others)) (Rises-distinct_items lines) (Rises-distinct_items (all_lines others))
    (λ q among. (Contains-distinct_items (all_lines others) q).1 (Contains-permutation lines (all_lines others) q moved ((Contains-distinct_items lines q).0 among)))
    (λ q among. (Contains-distinct_items lines q).1 (Contains-permutation (all_lines others) lines q (IsPermutation-sym lines (all_lines others) moved) ((Contains-distinct_items (all_lines others) q).0 among))) in
    λ i. flat_map (λ item. tally_row item (sym (times-IsPermutation item lines (all_lines others) moved) i)) (same i)

-- ---- entries of borrowed items

abbrev Entry : Type 0
Entry = Bor (List ℕ) × ℕ

abbrev pair_of : Entry → Pair
pair_of entry = (entry.0.now, entry.1)

-- the rows of sorted entries are the table of the entries
pub table_from_sort : (entries sorted : List Entry) (text : List ℕ) → IsPermutation entries sorted → IsSorted (λ entry other. pair_order (pair_of entry) (pair_of other)) sorted → text ≡ tally_rows (pairs_of sorted) → IsTableOf (pairs_of entries) text
table_from_sort entries sorted text moved up rows = record {
  sorted = pairs_of sorted;
  same_pairs = IsPermutation-map pair_of entries sorted moved;
  in_order = λ k d low within.
      let e : Entry = (record { ref_ptr = (0, 0); now = d.0 }, d.1) in
      let inside : k + 1 < length sorted = omega (arith, length-map sorted pair_of) in
      ap₂ (λ a b. is_lt (pair_order a b)) (get_or-map pair_of sorted (k + 1) e d inside) (get_or-map pair_of sorted k e d (omega arith)) ∙ up k e low inside;
  rows = rows;
}
