-- Control letters, worked out by hand.
use Rattle.std.proofs.Common.{◌≡◌, [], ◌∷◌, None, refl}
use Rattle.msg_codec.specs.Control.{spelled_counts, letter_of_control, control_of_letter}
use Rattle.msg_codec.specs.Spelling.{spelled_letter}
use Rattle.msg_codec.specs.declared.control.Control.TheVariants.{Count, Total}

a_count : spelled_letter (letter_of_control (Count 3 1 258 65536)) ≡
    0 ∷ 0 ∷ 0 ∷ 0 ∷ 3 ∷ 0 ∷ 0 ∷ 0 ∷ 240 ∷ 24 ∷ 0 ∷ 0 ∷ 0 ∷ 1 ∷ 0 ∷ 0 ∷ 0 ∷ 0 ∷ 0 ∷ 0 ∷ 0 ∷ 2 ∷ 1 ∷ 0 ∷ 0 ∷ 0 ∷ 0 ∷ 0 ∷ 0 ∷ 0 ∷ 0 ∷ 1 ∷ 0 ∷ 0 ∷ 0 ∷ 0 ∷ 0 ∷ []
unfolding spelled_counts
a_count = refl

a_total : spelled_letter (letter_of_control (Total 2 0 5 4)) ≡
    2 ∷ 0 ∷ 0 ∷ 0 ∷ 0 ∷ 0 ∷ 0 ∷ 0 ∷ 241 ∷ 24 ∷ 0 ∷ 0 ∷ 0 ∷ 0 ∷ 0 ∷ 0 ∷ 0 ∷ 0 ∷ 0 ∷ 0 ∷ 0 ∷ 5 ∷ 0 ∷ 0 ∷ 0 ∷ 0 ∷ 0 ∷ 0 ∷ 0 ∷ 4 ∷ 0 ∷ 0 ∷ 0 ∷ 0 ∷ 0 ∷ 0 ∷ 0 ∷ []
unfolding spelled_counts
a_total = refl

-- a Count goes to rank 0 only
to_another : control_of_letter (record { to = 1; from = 3; tag = 240; body = spelled_counts 1 2 2 }) ≡ None
unfolding spelled_counts
to_another = refl
