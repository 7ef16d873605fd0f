-- What the letter of an insert adds.
use Rattle.std.proofs.Common.{◌≡◌, ℕ, ◌≤◌, true, List, length, Some, arith, le-leb, length-append}
use Rattle.std.specs.Prelude.{nat_le}
use Rattle.msg_codec.specs.Spelling.{spelled_number}
use Rattle.counting_set.specs.Counting.{adds, add_letter}
use Rattle.counting_set.specs.ItemCount.{spelled_item_count}
use Rattle.counting_set.proofs.ItemCount.Again.{item_count_again}

-- the letter that `count_insert` sends adds one of its item
pub add_letter_adds : (to from : ℕ) (item : List ℕ) → length item ≤ 1000100 → adds (add_letter to from item) ≡ Some (item, 1)
add_letter_adds to from item short =
    let few : nat_le (length (spelled_item_count item 1)) 1000200 ≡ true = le-leb _ _ (omega (arith, short, length-append item (spelled_number 1))) in
    rw few (item_count_again item 1 (omega (arith, short)) (omega arith))
