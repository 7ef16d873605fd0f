-- The rounds of a world, and what they say of it. This follows Mattern's two waves: two rounds that agree show that nothing
-- was in transit at the first.
use Rattle.std.specs.Prelude.{◌≡◌, ℕ, suc, ◌<◌, ◌≤◌, nat_lt, not, Bool, true, IsTrue, List, [], is_some}
use Rattle.std.specs.List.{AllByRecursion, filter}
use Rattle.list_facts.specs.Below.{in_a_row, some_below}
use Rattle.list_facts.specs.Sums.{sum_upto}
use Rattle.msg_codec.specs.Control.{is_total, round_of, sent_of, run_of}
use Rattle.msg_codec.specs.declared.letter.Letter.{Letter}
use Rattle.world_core.specs.declared.entry.Entry.{Entry}
use Rattle.world_core.specs.Counts.{before_count, counts, total_taken}
use Rattle.world_core.specs.Local.{to_forward}
use Rattle.world_core.specs.Log.{batches_put, batches_taken, letters_of, letters_put}
use Rattle.world_core.specs.Pairs.{is_data, own_count, pair_put, pair_taken, run_count}
use Rattle.world_core.specs.Rounds.{Sums, ended_below, ends}
use Rattle.world_core.specs.World.{Logs, local, log_of}

-- the cut at round q: each log up to its Count q, or the whole log of a rank that hasn't put it
abbrev pub cut : Logs → ℕ → ℕ → List Entry
cut world q rank = before_count q (log_of world rank)

-- what all ranks sent, and what ran at them, before the cut
abbrev pub sent_at : Logs → ℕ → ℕ
sent_at world q = sum_upto (λ rank. own_count rank (cut world q rank)) world.layout.ranks

abbrev pub run_at : Logs → ℕ → ℕ
run_at world q = sum_upto (λ rank. run_count rank (cut world q rank)) world.layout.ranks

abbrev pub sums_at : Logs → ℕ → Sums
sums_at world q = record { sent = sent_at world q; run = run_at world q }

-- every rank put Count q
abbrev pub IsComplete : Logs → ℕ → Type 0
IsComplete world q = (rank : ℕ) → rank < world.layout.ranks → q < counts (log_of world rank)

-- some rank hasn't put Count q
abbrev pub Lacks : Logs → ℕ → Type 0
Lacks world q = (rank : ℕ) × (rank < world.layout.ranks) × (counts (log_of world rank) ≤ q)

-- A cut is quiet where of each pair of ranks the one took before it exactly what the other put before it.
abbrev pub IsQuiet : Logs → ℕ → Type 0
IsQuiet world q = (s d : ℕ) → pair_put s d (cut world q s) ≡ pair_taken s d (cut world q d)

-- the data letters of batches
abbrev pub data_of : List (List Letter) → List Letter
data_of batches = filter is_data (letters_of batches)

-- Each data letter that was put was taken, no rank has one to forward, and since its Count q none sent a letter of its
-- own or ran one.
pub record IsStill (world : Logs) (q : ℕ) : Type 0 where
  pub links : (from to : ℕ) → data_of (batches_taken from (log_of world to)) ≡ data_of (batches_put to (log_of world from))
  pub forwarded : (rank s d : ℕ) → to_forward (local world rank) s d ≡ []
  pub sent : (rank : ℕ) → own_count rank (log_of world rank) ≡ own_count rank (cut world q rank)
  pub run : (rank : ℕ) → run_count rank (log_of world rank) ≡ run_count rank (cut world q rank)

-- The wave clause, for a complete round q in which all that was sent ran. As many letters were sent before the next cut,
-- or more. Where as many were, the cut at q is quiet, and nothing moves until every rank has put its next Count.
pub record IsWave (world : Logs) (q : ℕ) : Type 0 where
  pub grows : sent_at world q ≤ sent_at world (suc q)
  pub quiet : sent_at world q ≡ sent_at world (suc q) → IsQuiet world q
  pub still : sent_at world q ≡ sent_at world (suc q) → Lacks world (suc q) → IsStill world q

-- a Total is of a complete round, and carries its sums
abbrev pub IsTrueTotal : Logs → Letter → Type 0
IsTrueTotal world l = is_total l ≡ true →
    IsComplete world (round_of l) × (sent_of l ≡ sent_at world (round_of l)) × (run_of l ≡ run_at world (round_of l))

-- The Totals are true, and a rank that counts again took the Total of the round before. The wave clause holds, and the
-- cut of each ended barrier is quiet: where round q + 1 ends it, that is the cut at round q.
pub record AreRounds (world : Logs) : Type 0 where
  pub totals : (rank : ℕ) → AllByRecursion (IsTrueTotal world) (letters_put (log_of world rank))
  pub told : (rank q : ℕ) → suc q < counts (log_of world rank) → IsTrue (is_some (total_taken rank q (log_of world rank)))
  pub waves : (q : ℕ) → IsComplete world q → sent_at world q ≡ run_at world q → IsWave world q
  pub ended : (q : ℕ) → IsComplete world (suc q) → ends (sums_at world) (suc q) ≡ true → IsQuiet world q

-- ---- the barriers that ended

abbrev pub is_complete : Logs → ℕ → Bool
is_complete world q = not (some_below (λ rank. not (nat_lt q (counts (log_of world rank)))) world.layout.ranks)

-- the number of complete rounds, which is at most the number of Counts of rank 0
abbrev pub complete_count : Logs → ℕ
complete_count world = in_a_row (is_complete world) (counts (log_of world 0))

abbrev pub ended_count : Logs → ℕ
ended_count world = ended_below (sums_at world) (complete_count world)

-- the round ends the barrier of this number, counted from 0
pub record EndsBarrier (world : Logs) (barrier q : ℕ) : Type 0 where
  pub complete : IsComplete world q
  pub ends : ends (sums_at world) q ≡ true
  pub number : ended_below (sums_at world) q ≡ barrier
