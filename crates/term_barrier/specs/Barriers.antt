-- What is seen of a barrier, when it agrees with a log, and what it becomes as letters are handed to it and put by it.
use Rattle.std.specs.Prelude.{◌≡◌, ◌⊎◌, ℕ, pred, ◌+◌, ◌<◌, ◌-◌, ◌≤◌, ◌&&◌, ◌==◌, nat_lt, Bool, false, List, [], ◌∷◌, ◌++◌, length, map, replicate, slice_index_or, slice_set, if◌then◌else◌}
use Rattle.std.specs.List.{filter}
use Rattle.list_facts.specs.Sums.{sum_upto}
use Rattle.msg_codec.specs.Control.{is_control, is_count, run_of, sent_of}
use Rattle.msg_codec.specs.declared.letter.Letter.{Letter}
use Rattle.ygm_route.specs.Layout.{Shape}
use Rattle.world_core.specs.declared.entry.Entry.{Entry}
use Rattle.world_core.specs.ControlRules.{is_counted}
use Rattle.world_core.specs.Counts.{counts, is_count_of, is_total_to, totals}
use Rattle.world_core.specs.Limits.{most_rounds}
use Rattle.world_core.specs.Local.{Local}
use Rattle.world_core.specs.Log.{letters_taken}
use Rattle.world_core.specs.Rounds.{Sums, agree, ended_below, first_round}
use Rattle.term_barrier.specs.declared.heard.Heard.{Heard}

-- ---- what control letters say

-- the control letters that a log took, over whichever links, in order
abbrev pub control_letters : List Entry → List Letter
control_letters log = filter is_control (letters_taken log)

-- the sums that a Count or a Total carries
abbrev pub sums_of : Letter → Sums
sums_of l = record { sent = sent_of l; run = run_of l }

abbrev pub no_sums : Sums
no_sums = record { sent = 0; run = 0 }

-- the sums in the Totals to a rank, and in the Counts of a rank, each by round
abbrev pub totals_heard : ℕ → List Letter → List Sums
totals_heard here letters = map sums_of (filter (is_total_to here) letters)

abbrev pub counts_heard : ℕ → List Letter → List Sums
counts_heard from letters = map sums_of (filter (is_count_of from) letters)

abbrev pub sums_heard : ℕ → List Letter → ℕ → Sums
sums_heard here letters q = slice_index_or (totals_heard here letters) q no_sums

-- ---- a barrier

-- what a barrier keeps of the Counts of one rank before any was handed to it
abbrev pub none_heard : Heard
none_heard = record { rounds = 0; last = no_sums; before = no_sums }

-- The place of its rank, how many rounds it may count, whether the rank is inside a barrier, and how many it has left; and
-- how many Counts it put. From the Totals handed to it: how many rounds it knows, the first round of the present barrier or
-- of the next, and the sums of the last round that it knows. Of the Totals that it put: how many rounds are over, whose
-- Total it put to all ranks, and the rank to which the Total of the next round goes next, or the number of ranks before
-- that to itself, which comes last. From the Counts handed to it, what it heard of each rank.
pub record BarrierState : Type 0 where
  pub layout : Shape
  pub here : ℕ
  pub rounds : ℕ
  pub inside : Bool
  pub left : ℕ
  pub counted : ℕ
  pub known : ℕ
  pub first : ℕ
  pub last : Sums
  pub over : ℕ
  pub next : ℕ
  pub heard : List Heard

-- a barrier that was never entered
abbrev pub fresh_barrier : Shape → ℕ → ℕ → BarrierState
fresh_barrier layout here rounds = record {
  layout = layout;
  here = here;
  rounds = rounds;
  inside = false;
  left = 0;
  counted = 0;
  known = 0;
  first = 0;
  last = no_sums;
  over = 0;
  next = 1;
  heard = replicate layout.ranks none_heard;
}

-- how many Totals it put to a rank
abbrev pub totals_put : BarrierState → ℕ → ℕ
totals_put barrier to = barrier.over + (if nat_lt 0 to && nat_lt to barrier.next then 1 else 0)

-- what it heard of a rank
abbrev pub heard_of : BarrierState → ℕ → Heard
heard_of barrier from = slice_index_or barrier.heard from none_heard

-- What holds of each barrier, whatever its log: it may count a round, it counted no more than it may and knows all of them
-- but perhaps the last, and it heard of each rank.
pub record InRange (barrier : BarrierState) : Type 0 where
  pub within : barrier.here < barrier.layout.ranks
  pub some : 1 ≤ barrier.rounds
  pub few : barrier.rounds ≤ most_rounds
  pub counted_few : barrier.counted ≤ barrier.rounds
  pub counted_first : barrier.known ≤ barrier.counted
  pub one_ahead : barrier.counted ≤ barrier.known + 1
  pub left_few : barrier.left ≤ barrier.known
  pub over_few : barrier.over ≤ barrier.counted
  pub next_within : (1 ≤ barrier.next) × (barrier.next ≤ barrier.layout.ranks)
  pub all : length barrier.heard ≡ barrier.layout.ranks

-- What is kept of Counts with these sums: how many there are, and the last two.
pub record IsHeard (one : Heard) (sums : List Sums) : Type 0 where
  pub rounds_are : one.rounds ≡ length sums
  pub last_is : 0 < length sums → one.last ≡ slice_index_or sums (length sums - 1) no_sums
  pub before_is : 1 < length sums → one.before ≡ slice_index_or sums (length sums - 2) no_sums

-- Its rounds are those of the Counts and Totals that the log put and of these control letters, which were handed to it.
pub record AreItsRounds (barrier : BarrierState) (letters : List Letter) (log : List Entry) : Type 0 where
  pub counts_are : barrier.counted ≡ counts log
  pub totals_are : (to : ℕ) → to < barrier.layout.ranks → totals_put barrier to ≡ totals to log
  pub known_are : barrier.known ≡ length (totals_heard barrier.here letters)
  pub first_is : barrier.first ≡ first_round (sums_heard barrier.here letters) barrier.known
  pub left_are : barrier.left ≡ ended_below (sums_heard barrier.here letters) barrier.known
  pub last_is : 0 < barrier.known → barrier.last ≡ sums_heard barrier.here letters (pred barrier.known)
  pub heard_are : (from : ℕ) → from < barrier.layout.ranks → IsHeard (heard_of barrier from) (counts_heard from letters)

-- A barrier agrees with a log, where its rank keeps these control letters: the others that the log took were handed to it.
-- Its rounds are those of the log's Counts and Totals and of the letters handed to it, and where the rank isn't inside, the
-- log is in no counted barrier.
pub record BarrierAgrees (barrier : BarrierState) (kept : List Letter) (me : Local) : Type 0 where
  pub layout : barrier.layout ≡ me.layout
  pub here : barrier.here ≡ me.here
  pub handed : List Letter
  pub in_order : handed ++ kept ≡ control_letters me.log
  pub its_rounds : AreItsRounds barrier handed me.log
  pub outside : barrier.inside ≡ false → is_counted me ≡ false

-- ---- a barrier is handed a letter

-- a round with these sums ends the barrier, if it is the next that it is told of
abbrev pub is_last_round : BarrierState → Sums → Bool
is_last_round barrier sums = nat_lt barrier.first barrier.known && agree barrier.last sums

-- it was handed the Total of the next round
abbrev pub with_total : BarrierState → Sums → BarrierState
with_total barrier sums = record barrier {
  left = if is_last_round barrier sums then barrier.left + 1 else barrier.left;
  known = barrier.known + 1;
  first = if is_last_round barrier sums then barrier.known + 1 else barrier.first;
  last = sums;
}

-- one more Count of a rank was heard
abbrev pub heard_more : Heard → Sums → Heard
heard_more one sums = record { rounds = one.rounds + 1; last = sums; before = one.last }

-- it was handed the next Count of a rank
abbrev pub with_count : BarrierState → ℕ → Sums → BarrierState
with_count barrier from sums = record barrier { heard = slice_set barrier.heard from (heard_more (heard_of barrier from) sums) }

-- It was handed a control letter. Any other letter, as a Total for another rank, is of no round here.
abbrev pub with_letter : BarrierState → Letter → BarrierState
with_letter barrier l =
    if is_total_to barrier.here l then with_total barrier (sums_of l)
    else if is_count l && (l.to == 0) then with_count barrier l.from (sums_of l)
    else barrier

-- it was handed letters, one after another
abbrev pub with_letters : BarrierState → List Letter → BarrierState
with_letters barrier [] = barrier
with_letters barrier (l ∷ letters) = with_letters (with_letter barrier l) letters

-- There is room for what these letters say: no more rounds are known than the rank counted, and no count is too large.
pub record HasRoom (barrier : BarrierState) (letters : List Letter) : Type 0 where
  pub known : barrier.known + length (totals_heard barrier.here letters) ≤ barrier.counted
  pub heard : (from : ℕ) → from < barrier.layout.ranks → (heard_of barrier from).rounds + length (counts_heard from letters) ≤ most_rounds + 2

-- ---- the barrier puts a letter

-- it put the Count of the next round
abbrev pub with_count_put : BarrierState → BarrierState
with_count_put barrier = record barrier { counted = barrier.counted + 1 }

-- it put the Total of the next round to this rank: to itself last, and then that round is over
abbrev pub with_total_put : BarrierState → ℕ → BarrierState
with_total_put barrier to =
    if to == 0 then record barrier { over = barrier.over + 1; next = 1 } else record barrier { next = to + 1 }

-- ---- the Totals of a round

-- Rank 0 was handed the Counts of all ranks of the next round to total, which is the first whose Total it hasn't put to all.
abbrev pub HasEveryCount : BarrierState → Type 0
HasEveryCount barrier = (from : ℕ) → from < barrier.layout.ranks → barrier.over < (heard_of barrier from).rounds

-- the sums of a Count, which is the last that was heard of its rank or the one before
abbrev pub sums_heard_at : ℕ → Heard → Sums
sums_heard_at q one = if one.rounds == q + 1 then one.last else one.before

-- the sums of that round over all ranks
abbrev pub round_sums : BarrierState → Sums
round_sums barrier = record {
  sent = sum_upto (λ from. (sums_heard_at barrier.over (heard_of barrier from)).sent) barrier.layout.ranks;
  run = sum_upto (λ from. (sums_heard_at barrier.over (heard_of barrier from)).run) barrier.layout.ranks;
}

-- The Total of that round goes to this rank next: to rank 1, 2 and so on, and to rank 0 itself last.
abbrev pub IsNextTotal : BarrierState → ℕ → Type 0
IsNextTotal barrier to = ((to ≡ barrier.next) × (to < barrier.layout.ranks)) ⊎ ((to ≡ 0) × (barrier.next ≡ barrier.layout.ranks))

-- The Total of that round with these sums may be put to this rank.
pub record IsTotalDue (barrier : BarrierState) (to : ℕ) (sums : Sums) : Type 0 where
  pub every : HasEveryCount barrier
  pub counted : barrier.over < barrier.counted
  pub sums_are : sums ≡ round_sums barrier
  pub next : IsNextTotal barrier to

-- Of this rank the Count of the present round wasn't handed to it, and it is the lowest rank of which this holds. The present
-- round is the first whose Total wasn't handed to it.
pub record IsMissing (barrier : BarrierState) (rank : ℕ) : Type 0 where
  pub within : rank < barrier.layout.ranks
  pub not_heard : (heard_of barrier rank).rounds ≤ barrier.known
  pub lower_heard : (lower : ℕ) → lower < rank → barrier.known < (heard_of barrier lower).rounds

-- the Counts of the present round of all ranks were handed to it
abbrev pub HasHeardAll : BarrierState → Type 0
HasHeardAll barrier = (rank : ℕ) → rank < barrier.layout.ranks → barrier.known < (heard_of barrier rank).rounds

-- Rank 0 put the Totals of the present round to all ranks, or misses no Count of it.
abbrev pub MissesNoCount : BarrierState → Type 0
MissesNoCount barrier = barrier.here ≡ 0 → (barrier.known < barrier.over) ⊎ HasHeardAll barrier

-- At rank 0, it put the Totals of the present round to all ranks, or wasn't handed all Counts of that round.
abbrev pub HasPutTotals : BarrierState → Type 0
HasPutTotals barrier = barrier.here ≡ 0 → (barrier.known < barrier.over) ⊎ (HasHeardAll barrier → ⊥)

-- Rank 0 may put Totals: of the present round, whose Counts it was handed.
pub record HasTotalsDue (barrier : BarrierState) : Type 0 where
  pub first_rank : barrier.here ≡ 0
  pub present : barrier.over ≡ barrier.known
  pub counted : barrier.known < barrier.counted
  pub every : HasEveryCount barrier

-- where the Total goes that is next, of so many ranks
abbrev pub destination : ℕ → ℕ → ℕ
destination ranks next = if nat_lt next ranks then next else 0
