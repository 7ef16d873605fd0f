-- What a rank's contents become and what its handler sends, as letters run there one after another.
use Rattle.std.specs.Prelude.{ℕ, List, [], ◌∷◌, ◌++◌, map}
use Rattle.msg_codec.specs.declared.letter.Letter.{Letter}
use Rattle.comm_rank.specs.declared.handler.Outbound.{Outbound}

-- What a handler does with a letter: from contents, rank, number of ranks and letter to new contents and what is sent.
abbrev pub Applies : Type 0 → Type 0
Applies C = C → ℕ → ℕ → Letter → C × List Outbound

-- the letter that this makes, once its sender is added
abbrev pub letter_by : ℕ → Outbound → Letter
letter_by here sent = record { to = sent.to; from = here; tag = sent.tag; body = sent.body }

-- the letters that the handler gives while a letter runs, in order
abbrev pub given_by : {C : Type 0} → Applies C → ℕ → ℕ → C → Letter → List Letter
given_by apply here ranks contents l = map (letter_by here) (apply contents here ranks l).1

-- the contents after these letters ran
abbrev pub fold_from : {C : Type 0} → Applies C → ℕ → ℕ → C → List Letter → C
fold_from apply here ranks contents [] = contents
fold_from apply here ranks contents (l ∷ ls) = fold_from apply here ranks (apply contents here ranks l).0 ls

-- the letters that the handler gave while these ran, in order
abbrev pub handed_from : {C : Type 0} → Applies C → ℕ → ℕ → C → List Letter → List Letter
handed_from apply here ranks contents [] = []
handed_from apply here ranks contents (l ∷ ls) =
    given_by apply here ranks contents l ++ handed_from apply here ranks (apply contents here ranks l).0 ls
