-- Lines as items: how often one occurs, and which there are, in byte order.
use Rattle.std.specs.Prelude.{◌≡◌, ℕ, List, [], ◌∷◌, bytes_eq, count_by}
use Rattle.std.specs.BTreeSet.{insert_key}
use Rattle.std.specs.Cmp.Lexicographic.{slice_cmp}
use Rattle.std.specs.Ordering.{nat_cmp}
use Rattle.std.specs.declared.cmp.Ordering.{Ordering}
use Rattle.std.specs.declared.cmp.Ordering.TheVariants.{Less}

-- the order of lists of bytes
abbrev pub byte_order : List ℕ → List ℕ → Ordering
byte_order = slice_cmp nat_cmp

-- an item comes before another in byte order
abbrev pub IsBefore : List ℕ → List ℕ → Type 0
IsBefore item other = byte_order item other ≡ Less

-- how many lines are equal to an item
abbrev pub times : List ℕ → List (List ℕ) → ℕ
times item lines = count_by (λ line. bytes_eq item line) lines

-- the items among the lines, each once and in byte order
abbrev pub distinct_items : List (List ℕ) → List (List ℕ)
distinct_items [] = []
distinct_items (line ∷ lines) = insert_key byte_order (distinct_items lines) line
