-- Rounds, and the barriers that they end. A round is known by its sums: a rank has them from the Totals that it took, and
-- a world from its logs.
use Rattle.std.specs.Prelude.{ℕ, zero, suc, pred, ◌+◌, Bool, ◌&&◌, ◌==◌, nat_lt, is_some, Option, Some, None, List, length, if◌then◌else◌}
use Rattle.list_facts.specs.Below.{in_a_row}
use Rattle.msg_codec.specs.Control.{sent_of, run_of}
use Rattle.msg_codec.specs.declared.letter.Letter.{Letter}
use Rattle.world_core.specs.declared.entry.Entry.{Entry}
use Rattle.world_core.specs.Counts.{total_taken}
use Rattle.world_core.specs.Log.{letters_taken}

-- how many letters were sent, and how many ran
pub record Sums : Type 0 where
  pub sent : ℕ
  pub run : ℕ

-- two rounds with the same sums, in each of which all that was sent ran
abbrev pub agree : Sums → Sums → Bool
agree a b = (a.sent == a.run) && (b.sent == b.run) && (a.sent == b.sent)

-- A round ends the barrier that began with round `first` where it agrees with the round before, and isn't that first one.
abbrev pub ends_from : ℕ → (ℕ → Sums) → ℕ → Bool
ends_from first sums q = nat_lt first q && agree (sums (pred q)) (sums q)

abbrev pub next_first : (ℕ → Sums) → ℕ → ℕ → ℕ
next_first sums q first = if ends_from first sums q then suc q else first

-- the first round of the barrier of round q: 0, or the round after the last one before q that ends a barrier
unfoldable pub first_round : (ℕ → Sums) → ℕ → ℕ
first_round sums zero = zero
first_round sums (suc q) = next_first sums q (first_round sums q)

-- round q ends its barrier
abbrev pub ends : (ℕ → Sums) → ℕ → Bool
ends sums q = ends_from (first_round sums q) sums q

-- how many of the rounds below q end their barrier
unfoldable pub ended_below : (ℕ → Sums) → ℕ → ℕ
ended_below sums zero = 0
ended_below sums (suc q) = ended_below sums q + (if ends sums q then 1 else 0)

-- ---- what a rank learns from the Totals that it took

abbrev pub sums_in : Option Letter → Sums
sums_in None = record { sent = 0; run = 0 }
sums_in (Some l) = record { sent = sent_of l; run = run_of l }

abbrev pub sums_told : ℕ → List Entry → ℕ → Sums
sums_told here log q = sums_in (total_taken here q log)

-- it knows the rounds 0, 1, 2 and so on, up to the first whose Total it didn't take
unfoldable pub rounds_known : ℕ → List Entry → ℕ
rounds_known here log = in_a_row (λ q. is_some (total_taken here q log)) (length (letters_taken log))

-- the first round of the barrier that it is in, or that comes next
unfoldable pub barrier_start : ℕ → List Entry → ℕ
barrier_start here log = first_round (sums_told here log) (rounds_known here log)
