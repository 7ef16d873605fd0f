-- Encodings of an item and its count, worked out by hand.
use Rattle.std.proofs.Common.{◌≡◌, [], ◌∷◌, Some, None, refl}
use Rattle.msg_codec.specs.Reading.{body_reading, number_reading, pair_reading, stated}
use Rattle.counting_set.specs.ItemCount.{item_count_of, spelled_item_count}

one_x : spelled_item_count (120 ∷ []) 1 ≡ 1 ∷ 0 ∷ 0 ∷ 0 ∷ 120 ∷ 1 ∷ 0 ∷ 0 ∷ 0 ∷ 0 ∷ 0 ∷ 0 ∷ 0 ∷ []
one_x = refl

one_x_read : item_count_of (1 ∷ 0 ∷ 0 ∷ 0 ∷ 120 ∷ 1 ∷ 0 ∷ 0 ∷ 0 ∷ 0 ∷ 0 ∷ 0 ∷ 0 ∷ []) ≡ Some (120 ∷ [], 1)
unfolding item_count_of pair_reading body_reading stated number_reading
one_x_read = refl

one_byte_left_over : item_count_of (1 ∷ 0 ∷ 0 ∷ 0 ∷ 120 ∷ 1 ∷ 0 ∷ 0 ∷ 0 ∷ 0 ∷ 0 ∷ 0 ∷ 0 ∷ 9 ∷ []) ≡ None
unfolding item_count_of pair_reading body_reading stated number_reading
one_byte_left_over = refl
