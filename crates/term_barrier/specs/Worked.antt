-- A worked case: one rank sent itself a letter, which ran, and then passed a barrier of two rounds. Its log has the entries
-- of that letter, and those of the Count and the Total of each round.
use Rattle.std.specs.Prelude.{ℕ, List, [], ◌∷◌}
use Rattle.msg_codec.specs.Control.{letter_of_control}
use Rattle.msg_codec.specs.declared.control.Control.TheVariants.{Count, Total}
use Rattle.msg_codec.specs.declared.letter.Letter.{Letter}
use Rattle.ygm_route.specs.declared.scheme.Scheme.TheVariants.{Direct}
use Rattle.world_core.specs.declared.entry.Entry.{Entry}
use Rattle.world_core.specs.declared.entry.Entry.TheVariants.{Put, Took}
use Rattle.world_core.specs.Local.{Local, local_rank}

-- the entries of a letter that the rank sends itself
abbrev pub to_itself : Letter → List Entry → List Entry
to_itself l more = Put 0 (l ∷ []) ∷ Took 0 (l ∷ []) ∷ more

abbrev pub a_letter : Letter
a_letter = record { to = 0; from = 0; tag = 16; body = [] }

-- the Count and the Total of a round, with the sums 1 and 1
abbrev pub a_round : ℕ → List Entry → List Entry
a_round q more = to_itself (letter_of_control (Count 0 q 1 1)) (to_itself (letter_of_control (Total 0 q 1 1)) more)

abbrev pub lone_rank : Local
lone_rank = local_rank (record { ranks = 1; cores = 1 }) Direct 0 (to_itself a_letter (a_round 0 (a_round 1 [])))
