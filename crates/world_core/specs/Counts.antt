-- The Counts and Totals that a log put and took, and the log before each of its Counts.
use Rattle.std.specs.Prelude.{◌≡◌, ℕ, zero, suc, ◌<◌, Bool, true, Option, List, [], ◌∷◌, length, ◌&&◌, ◌==◌, if◌then◌else◌}
use Rattle.std.specs.List.{filter, find, list_any}
use Rattle.msg_codec.specs.Control.{is_count, is_total, round_of, sent_of, run_of}
use Rattle.msg_codec.specs.declared.letter.Letter.{Letter}
use Rattle.world_core.specs.declared.entry.Entry.{Entry}
use Rattle.world_core.specs.Log.{batches_put, batches_taken, letters_of, letters_put_by}
use Rattle.world_core.specs.Pairs.{own_count, run_count}

-- a Count is alone in its batch, so an entry puts one or none
abbrev pub puts_count : Entry → Bool
puts_count entry = list_any is_count (letters_put_by entry)

-- how many Counts a log put
abbrev pub counts : List Entry → ℕ
counts log = length (filter puts_count log)

-- The log up to its Count q, without it. Where that Count isn't there, it is the whole log.
abbrev pub before_count : ℕ → List Entry → List Entry
before_count q [] = []
before_count zero (entry ∷ log) = if puts_count entry then [] else entry ∷ before_count zero log
before_count (suc q) (entry ∷ log) = entry ∷ (if puts_count entry then before_count q log else before_count (suc q) log)

-- how many Totals a log put to a rank
abbrev pub totals : ℕ → List Entry → ℕ
totals to log = length (filter is_total (letters_of (batches_put to log)))

-- what rank 0 reads as a Count of this rank, and what this rank reads as a Total to it
abbrev pub is_count_of : ℕ → Letter → Bool
is_count_of rank l = is_count l && (l.from == rank) && (l.to == 0)

abbrev pub is_total_to : ℕ → Letter → Bool
is_total_to rank l = is_total l && (l.from == 0) && (l.to == rank)

-- the Count of a round that a log took from a rank, and the Total of a round that the log of a rank took: the first, if
-- there are several
unfoldable pub count_taken : ℕ → ℕ → List Entry → Option Letter
count_taken rank q log = find (λ l. is_count_of rank l && (round_of l == q)) (letters_of (batches_taken rank log))

unfoldable pub total_taken : ℕ → ℕ → List Entry → Option Letter
total_taken here q log = find (λ l. is_total_to here l && (round_of l == q)) (letters_of (batches_taken 0 log))

-- A Count that a rank put carries what its log put and took before it.
pub record SaysTrue (here : ℕ) (log : List Entry) (l : Letter) : Type 0 where
  pub put : round_of l < counts log
  pub sent : sent_of l ≡ own_count here (before_count (round_of l) log)
  pub run : run_of l ≡ run_count here (before_count (round_of l) log)

abbrev pub IsTrueCount : ℕ → List Entry → Letter → Type 0
IsTrueCount here log l = is_count l ≡ true → SaysTrue here log l
