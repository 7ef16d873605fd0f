-- The lines of small texts, computed.
use Rattle.std.proofs.Common.{◌≡◌, [], ◌∷◌, refl}
use Rattle.line_input.specs.Lines.{lines_of}

-- "b\na\nb\n"
three_lines : lines_of (98 ∷ 10 ∷ 97 ∷ 10 ∷ 98 ∷ 10 ∷ []) ≡ (98 ∷ []) ∷ (97 ∷ []) ∷ (98 ∷ []) ∷ []
three_lines = refl

-- "a\nb"
no_lf_at_the_end : lines_of (97 ∷ 10 ∷ 98 ∷ []) ≡ (97 ∷ []) ∷ (98 ∷ []) ∷ []
no_lf_at_the_end = refl

nothing_has_no_line : lines_of [] ≡ []
nothing_has_no_line = refl

-- "\n"
one_empty_line : lines_of (10 ∷ []) ≡ [] ∷ []
one_empty_line = refl

-- "\n\nx\n"
empty_lines_first : lines_of (10 ∷ 10 ∷ 120 ∷ 10 ∷ []) ≡ [] ∷ [] ∷ (120 ∷ []) ∷ []
empty_lines_first = refl

-- "a\r\na\n\r"
cr_at_each_end : lines_of (97 ∷ 13 ∷ 10 ∷ 97 ∷ 10 ∷ 13 ∷ []) ≡ (97 ∷ []) ∷ (97 ∷ []) ∷ [] ∷ []
cr_at_each_end = refl

-- "a\r\r\n"
one_of_two_crs : lines_of (97 ∷ 13 ∷ 13 ∷ 10 ∷ []) ≡ (97 ∷ 13 ∷ []) ∷ []
one_of_two_crs = refl
