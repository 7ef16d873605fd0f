-- What is decoded from bytes, worked out by hand.
use Rattle.std.proofs.Common.{◌≡◌, [], ◌∷◌, Ok, Err, refl}
use Rattle.msg_codec.specs.declared.wire.WireFault.TheVariants.{Short, TooLong}
use Rattle.msg_codec.specs.Reading.{body_reading, number_reading, pair_reading, stated}

seven_bytes : number_reading (1 ∷ 0 ∷ 0 ∷ 0 ∷ 0 ∷ 0 ∷ 0 ∷ []) ≡ Err Short
unfolding number_reading
seven_bytes = refl

-- the length field alone is enough for the fault
above_the_limit : body_reading (1 ∷ 0 ∷ 16 ∷ 0 ∷ []) ≡ Err TooLong
unfolding body_reading stated
above_the_limit = refl

at_the_limit : body_reading (0 ∷ 0 ∷ 16 ∷ 0 ∷ []) ≡ Err Short
unfolding body_reading stated
at_the_limit = refl

one_byte_of_two : body_reading (2 ∷ 0 ∷ 0 ∷ 0 ∷ 7 ∷ []) ≡ Err Short
unfolding body_reading stated
one_byte_of_two = refl

first_fault : pair_reading body_reading number_reading (1 ∷ 0 ∷ 16 ∷ 0 ∷ []) ≡ Err TooLong
unfolding pair_reading body_reading stated number_reading
first_fault = refl

second_fault : pair_reading number_reading body_reading (5 ∷ 0 ∷ 0 ∷ 0 ∷ 0 ∷ 0 ∷ 0 ∷ 0 ∷ 1 ∷ 0 ∷ 16 ∷ 0 ∷ []) ≡ Err TooLong
unfolding pair_reading body_reading stated number_reading
second_fault = refl

second_starts_where_first_ends : pair_reading body_reading number_reading (1 ∷ 0 ∷ 0 ∷ 0 ∷ 120 ∷ 2 ∷ 1 ∷ 0 ∷ 0 ∷ 0 ∷ 0 ∷ 0 ∷ 0 ∷ 9 ∷ []) ≡ Ok ((120 ∷ [], 258), 13)
unfolding pair_reading body_reading stated number_reading
second_starts_where_first_ends = refl
