-- What is to come, and what was taken from it.
use Rattle.std.proofs.Common.{◌≡◌, ℕ, List, [], ◌++◌, Some, None, refl, sym, ap, ◌∙◌, subst, append_assoc, IfSome}
use Rattle.std.specs.Option.{option_map}
use Rattle.std.proofs.lemmas.List.{append_assoc}
use Rattle.ygm_io.specs.Content.{ExposedBytes, TakenFrom, NothingLeft}
use Rattle.line_input.specs.Lines.{lines_of, StartsTooLong}
use Rattle.line_input.specs.Turns.{to_come, lines_to_come}

pub taken_none : (left : ExposedBytes) → TakenFrom [] left left
taken_none None = refl
taken_none (Some bytes) = refl

pub taken_more : (f g : List ℕ) (a b c : ExposedBytes) → TakenFrom f a b → TakenFrom g b c → TakenFrom (f ++ g) a c
taken_more f g a b None p q = p ∙ ap (option_map (λ rest. f ++ rest)) q
taken_more f g a b (Some c) p q = p ∙ ap (option_map (λ rest. f ++ rest)) q ∙ ap Some (sym (append_assoc f g c))

-- what was read is held, and what is to come is unchanged
pub to_come-read : (held piece : List ℕ) (before now : ExposedBytes) → TakenFrom piece before now → to_come (held ++ piece) now ≡ to_come held before
to_come-read held piece before None e = sym (ap (to_come held) e)
to_come-read held piece before (Some rest) e = ap Some (append_assoc held piece rest) ∙ sym (ap (to_come held) e)

pub lines_from_to_come : (held : List ℕ) (left : ExposedBytes) → lines_to_come held left ≡ option_map lines_of (to_come held left)
lines_from_to_come held None = refl
lines_from_to_come held (Some rest) = refl

-- nothing was read
pub left_unchanged : (before now : ExposedBytes) → TakenFrom [] before now → before ≡ now
left_unchanged before None e = e
left_unchanged before (Some rest) e = e

-- nothing is to come
pub nothing_to_come : (left : ExposedBytes) → NothingLeft left → NothingLeft (to_come [] left)
nothing_to_come None h = tt
nothing_to_come (Some rest) h = h

pub all_is_taken : (bytes : List ℕ) (now : ExposedBytes) → NothingLeft now → TakenFrom bytes (to_come bytes now) (to_come [] now)
all_is_taken bytes None none = refl
all_is_taken bytes (Some rest) none = refl

pub too_long_to_come : (held piece : List ℕ) (before now : ExposedBytes) → TakenFrom piece before now → ((rest : List ℕ) → StartsTooLong ((held ++ piece) ++ rest)) → IfSome (to_come held before) StartsTooLong
too_long_to_come held piece before None e h = subst (λ left. IfSome (to_come held left) StartsTooLong) (sym e) tt
too_long_to_come held piece before (Some rest) e h =
    subst (λ left. IfSome (to_come held left) StartsTooLong) (sym e)
    (subst StartsTooLong (append_assoc held piece rest) (h rest))

-- no line is too long where nothing is to come
pub none_too_long : (bytes : ExposedBytes) → bytes ≡ Some [] → IfSome bytes StartsTooLong → ⊥
none_too_long None e h = cc
none_too_long (Some bytes) e h = let empty : bytes ≡ [] = cc in let long : StartsTooLong [] = rw empty at h in cc
