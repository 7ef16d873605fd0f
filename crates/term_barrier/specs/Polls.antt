-- What a poll does to a rank and its log, what it returns, and what the polls of a whole barrier add up to.
use Rattle.std.specs.Prelude.{◌≡◌, ◌⊎◌, ℕ, pred, ◌+◌, ◌<◌, ◌≤◌, IsTrue, Bool, false, true, is_some, List, [], ◌∷◌, ◌++◌, Option, None, Some}
use Rattle.std.specs.List.{AllByRecursion}
use Rattle.list_facts.specs.Prefix.{IsPrefix}
use Rattle.msg_codec.specs.Control.{is_control}
use Rattle.msg_codec.specs.declared.letter.Letter.{Letter}
use Rattle.world_core.specs.declared.entry.Entry.{Entry}
use Rattle.world_core.specs.declared.entry.Entry.TheVariants.{Put, Took}
use Rattle.world_core.specs.Counts.{before_count, count_taken, counts, total_taken, totals}
use Rattle.world_core.specs.Local.{Local}
use Rattle.world_core.specs.Pairs.{arrived, of_pair, pair_put}
use Rattle.world_core.specs.Post.{PostState, PutDone, PutFoundFull, SameFulls, SameStops, local_at}
use Rattle.world_core.specs.Rising.{Rose}
use Rattle.world_core.specs.Rules.{IsHonest}
use Rattle.comm_rank.specs.declared.fault.CommFault.{CommFault}
use Rattle.comm_rank.specs.declared.fault.CommFault.TheVariants.{NoMemory}
use Rattle.comm_rank.specs.declared.turn.Turn.{Turn}
use Rattle.comm_rank.specs.Agrees.{Belongs, MayTurn}
use Rattle.comm_rank.specs.Fault.{IfStopped, UnlessStopped}
use Rattle.comm_rank.specs.Fold.{Applies}
use Rattle.comm_rank.specs.Rank.{HasFlushed, IsSameRank, Rank, handed, held_letters, local_of, sent_to}
use Rattle.comm_rank.specs.Turns.{Advanced, HasFailed, HasHalted, KeepsPost, LookedAt, NoneOrFull, PutsKeep, Turned}
use Rattle.term_barrier.specs.declared.polled.Polled.{Polled}
use Rattle.term_barrier.specs.declared.polled.Polled.TheVariants.{Left, Waiting as Waits}
use Rattle.term_barrier.specs.declared.polled.Waiting.{Waiting}
use Rattle.term_barrier.specs.declared.polled.Waiting.TheVariants.{Worked, Link, Count, Total, Spent}
use Rattle.term_barrier.specs.Barriers.{BarrierAgrees, BarrierState, HasHeardAll, MissesNoCount, IsMissing}
use Rattle.term_barrier.specs.Left.{HasLeft}

-- a put of control letters alone
abbrev pub PutsControl : Entry → Type 0
PutsControl (Put to letters) = AllByRecursion (λ l. IsTrue (is_control l)) letters
PutsControl (Took from letters) = ⊥

-- a control letter was put, or its link was found full
abbrev pub PutsLetter : Bool → ℕ → ℕ → Letter → PostState → PostState → Type 0
PutsLetter true here to l old new = PutDone here to (l ∷ []) old new
PutsLetter false here to l old new = PutFoundFull here to old new

-- A log gained puts of control letters alone. At most one of them is of a Count, which is put with no letter held.
pub record GainedControls (held : List Letter) (before after : List Entry) : Type 0 where
  pub controls : List Entry
  pub log : after ≡ before ++ controls
  pub each : AllByRecursion PutsControl controls
  pub one_count : counts controls ≤ 1
  pub none_held : 0 < counts controls → held ≡ []

-- A poll is a turn, after which all control letters that the rank took are handed over, and puts of control letters. The
-- turn leaves this rank and this log, and of the rank the rest of the poll changes nothing but that it keeps no control
-- letter.
pub record HasPolled {C : Type 0} (apply : Applies C) (old new : Rank C) (before after : List Entry) (turn : Turn) : Type 0 where
  pub rank : Rank C
  pub log : List Entry
  pub turned : Turned apply old rank before log turn
  pub gained : GainedControls (held_letters new) log after
  pub handed_over : new ≡ record rank { controls = [] }

-- ---- what a poll returns

-- it took the Total that ends the barrier, of this number and at this round
pub record PolledLeft (old new : BarrierState) (me : Local) (number round : ℕ) : Type 0 where
  pub number_is : number ≡ old.left
  pub has_left : HasLeft me number round
  pub one_more : new.left ≡ old.left + 1
  pub outside : new.inside ≡ false

-- The rank is still inside, and has left no more barriers than before.
pub record PolledWaiting (old new : BarrierState) : Type 0 where
  pub same_left : new.left ≡ old.left
  pub inside : new.inside ≡ true

-- A put to this rank, one of so many, found the link full, or no put found a link full.
abbrev pub FoundFull : ℕ → Option ℕ → PostState → PostState → Type 0
FoundFull ranks None old new = SameFulls old new
FoundFull ranks (Some to) old new = (to < ranks) × Rose (old.fulls to) (new.fulls to)

-- Rank 0 put its own Count of the round, and waits for that of this rank, from which it found nothing. The Counts of all
-- ranks below were taken.
pub record PolledCount (me : Local) (old new : PostState) (rank round : ℕ) : Type 0 where
  pub at_first : me.here ≡ 0
  pub within : rank < me.layout.ranks
  pub counted : round < counts me.log
  pub found_none : Rose (old.misses rank) (new.misses rank)
  pub not_taken : count_taken rank round me.log ≡ None
  pub lower_taken : (lower : ℕ) → lower < rank → is_some (count_taken lower round me.log) ≡ true

-- The rank put its Count of the round, and waits for the Total, and it found nothing from rank 0. Rank 0 itself put that
-- Total to all ranks.
pub record PolledTotal (me : Local) (old new : PostState) (round : ℕ) : Type 0 where
  pub counted : round < counts me.log
  pub found_none : Rose (old.misses 0) (new.misses 0)
  pub not_taken : total_taken me.here round me.log ≡ None
  pub all_put : me.here ≡ 0 → (to : ℕ) → to < me.layout.ranks → round < totals to me.log

-- The rank put as many Counts as it may, and took the Total of the last: it puts no more, and waits for ever.
pub record IsSpent (me : Local) (rounds : ℕ) : Type 0 where
  pub all_put : counts me.log ≡ rounds
  pub last_taken : is_some (total_taken me.here (pred rounds) me.log) ≡ true

-- It took no batch, and no put found a link full.
abbrev pub IsStill : Turn → PostState → PostState → Type 0
IsStill turn old new = (turn.took ≡ 0) × SameFulls old new

-- Why it waits: it worked; or else a link was full; or else a Count, or else a Total wasn't there; or else no round is
-- left.
abbrev pub IsReason : BarrierState → Local → PostState → PostState → Turn → Waiting → Type 0
IsReason barrier me old new turn (Worked took) = (took ≡ turn.took) × (0 < took)
IsReason barrier me old new turn (Link to) = (turn.took ≡ 0) × FoundFull me.layout.ranks (Some to) old new
IsReason barrier me old new turn (Count rank round) = IsStill turn old new × PolledCount me old new rank round
IsReason barrier me old new turn (Total round) = IsStill turn old new × PolledTotal me old new round
IsReason barrier me old new turn (Spent round) = IsStill turn old new × (round ≡ barrier.rounds) × IsSpent me round

abbrev pub IsAnswer : BarrierState → BarrierState → Local → PostState → PostState → Turn → Polled → Type 0
IsAnswer was now me old new turn (Left number round) = PolledLeft was now me number round
IsAnswer was now me old new turn (Waits why) = PolledWaiting was now × IsReason now me old new turn why

-- ---- a barrier, its rank and their log

-- A barrier stands at a post with its rank: the rank belongs to the post and may take a turn, and the barrier agrees with
-- the log of the rank there.
pub record Stands {C : Type 0} (apply : Applies C) (start : C → C) (barrier : BarrierState) (me : Rank C) (post : PostState) : Type 0 where
  pub belongs : Belongs apply start me post
  pub may_turn : MayTurn me (post.log me.here)
  pub agrees : BarrierAgrees barrier me.controls (local_of me (post.log me.here))

-- Control letters were put, and nothing else happened: of the barrier, its counts of what it put.
pub record HasPutControls (held : List Letter) (old new : BarrierState) (before after : PostState) : Type 0 where
  pub controls : List Entry
  pub log : after.log old.here ≡ before.log old.here ++ controls
  pub each : AllByRecursion PutsControl controls
  pub counted : new.counted ≡ old.counted + counts controls
  pub none_held : 0 < counts controls → held ≡ []
  pub barrier : new ≡ record old { counted = new.counted; over = new.over; next = new.next }
  pub keeps : PutsKeep old.here before after
  pub honest : IsHonest (local_at before old.here) → IsHonest (local_at after old.here)

-- What was due was put, unless this link was found full: the Count of the next round, where the rank holds no letter, and
-- at rank 0 the Totals of the present round.
pub record HasPutDue (held : List Letter) (barrier : BarrierState) (full : Option ℕ) (before after : PostState) : Type 0 where
  pub found : FoundFull barrier.layout.ranks full before after
  pub count : held ≡ [] → barrier.counted < barrier.rounds → (barrier.known < barrier.counted) ⊎ (full ≡ Some 0)
  pub totals : barrier.here ≡ 0 → HasHeardAll barrier → barrier.known < barrier.counted →
      (barrier.known < barrier.over) ⊎ IsTrue (is_some full)

-- the first rank of two, where there is one
abbrev pub either : Option ℕ → Option ℕ → Option ℕ
either None other = other
either (Some to) other = Some to

-- Why it waits, by what the barrier itself knows, where it took no batch and no link was full.
abbrev pub IsOtherReason : BarrierState → Waiting → Type 0
IsOtherReason barrier (Worked took) = ⊥
IsOtherReason barrier (Link to) = ⊥
IsOtherReason barrier (Count rank round) = (round ≡ barrier.known) × (barrier.known < barrier.counted) × (barrier.here ≡ 0) × IsMissing barrier rank
IsOtherReason barrier (Total round) = (round ≡ barrier.known) × (barrier.known < barrier.counted) × MissesNoCount barrier
IsOtherReason barrier (Spent round) = (round ≡ barrier.rounds) × (barrier.counted ≤ barrier.known)

-- After its turn a poll takes in control letters and puts some. Of the rank it changes nothing but that it keeps no control
-- letter.
pub record AfterTurn {C : Type 0} (old new : Rank C) (before after : PostState) : Type 0 where
  pub handed_over : new ≡ record old { controls = [] }
  pub gained : GainedControls (held_letters old) (before.log old.here) (after.log old.here)
  pub keeps : PutsKeep old.here before after
  pub honest : IsHonest (local_at before old.here) → IsHonest (local_at after old.here)

-- ---- the outcomes of a poll

-- What was due was put, or its link was found full: the Count of the next round, where the rank holds no letter and may
-- count one more, and at rank 0 the Totals of the present round, whose Counts it was all handed.
pub record PutsDue (held : List Letter) (barrier : BarrierState) (before after : PostState) : Type 0 where
  pub count : held ≡ [] → barrier.counted < barrier.rounds →
      (barrier.known < barrier.counted) ⊎ Rose (before.fulls 0) (after.fulls 0)
  pub totals : barrier.here ≡ 0 → HasHeardAll barrier → barrier.known < barrier.counted →
      (barrier.known < barrier.over) ⊎ ((to : ℕ) × (to < barrier.layout.ranks) × Rose (before.fulls to) (after.fulls to))

-- It ended: a turn that ended, and puts of control letters. Nobody raised the stop.
pub record PollEnded {C : Type 0} (apply : Applies C) (start : C → C) (old new : BarrierState) (one me : Rank C) (before after : PostState) (answer : Polled) : Type 0 where
  pub turn : Turn
  pub polled : HasPolled apply one me (before.log one.here) (after.log one.here) turn
  pub same_rank : IsSameRank one me
  pub stands : Stands apply start new me after
  pub answers : IsAnswer old new (local_of me (after.log one.here)) before after turn answer
  pub puts_due : new.inside ≡ true → PutsDue (held_letters me) new before after
  pub takes_from_each : (from : ℕ) → from < one.layout.ranks → LookedAt one.here from before after
  pub puts_to_each : (to : ℕ) → to < one.layout.ranks → NoneOrFull to me.held before after
  pub stops : SameStops before after
  pub halts : after.halts ≡ before.halts

-- It failed after a turn that ended, for lack of memory for a put: the rank is stopped, and raised the stop. The control
-- letters were handed over, and some may have been put; the barrier agrees with the log, and the rank is still inside.
pub record PutFailed {C : Type 0} (apply : Applies C) (start : C → C) (old new : BarrierState) (one me : Rank C) (before after : PostState) (fault : CommFault) : Type 0 where
  pub turn : Turn
  pub polled : HasPolled apply one (record me { stopped = false }) (before.log one.here) (after.log one.here) turn
  pub stands : Stands apply start new me after
  pub waits : PolledWaiting old new
  pub no_memory : fault ≡ NoMemory
  pub raises_the_stop : after.raised one.here ≡ true
  pub halts : after.halts ≡ before.halts

-- its turn failed, and the barrier is unchanged; or a put after it failed
abbrev pub PollFailed : {C : Type 0} → Applies C → (C → C) → BarrierState → BarrierState → Rank C → Rank C → PostState → PostState → CommFault → Type 0
PollFailed apply start old new one me before after fault =
    (HasFailed apply one me before after fault × (new ≡ old)) ⊎ PutFailed apply start old new one me before after fault

-- its turn, with the rank's batches closed, met the stop, and did nothing; nor did the poll
pub record PollHalted {C : Type 0} (old new : BarrierState) (one me : Rank C) (before after : PostState) : Type 0 where
  pub rank : Rank C
  pub flushed : HasFlushed one rank
  pub halted : HasHalted rank me before after
  pub barrier : new ≡ old

-- what no call changes of a barrier
pub record IsSameBarrier (old new : BarrierState) : Type 0 where
  pub layout : new.layout ≡ old.layout
  pub here : new.here ≡ old.here
  pub rounds : new.rounds ≡ old.rounds

-- ---- the outcomes of a whole barrier

-- Before this Count the rank had put all that it had sent at an earlier log, and all that its handler gave by the letters
-- that arrived since then.
pub record PutAllBefore {C : Type 0} (apply : Applies C) (me : Rank C) (before after : List Entry) (q : ℕ) : Type 0 where
  pub ran : List Letter
  pub came : arrived me.here (before_count q after) ≡ arrived me.here before ++ ran
  pub all_put : (to : ℕ) → pair_put me.here to (before_count q after) ≡ sent_to me before to ++ of_pair me.here to (handed apply me ran)

-- this holds of each Count that the log gained since
abbrev pub PutAllBeforeCounts : {C : Type 0} → Applies C → Rank C → List Entry → List Entry → Type 0
PutAllBeforeCounts apply me before after = (q : ℕ) → counts before ≤ q → q < counts after → PutAllBefore apply me before after q

-- Polls that waited: the rank is still inside the barrier that it entered, and these letters ran since. None waited to run
-- as it entered.
pub record HasWaited {C : Type 0} (apply : Applies C) (start : C → C) (old new : BarrierState) (one me : Rank C) (before after : PostState) : Type 0 where
  pub run : List Letter
  pub advanced : Advanced apply one me (before.log one.here) (after.log one.here) run
  pub grown : IsPrefix (before.log one.here) (after.log one.here)
  pub none_waited : one.waiting ≡ []
  pub counted : PutAllBeforeCounts apply one (before.log one.here) (after.log one.here)
  pub stands : Stands apply start new me after
  pub same : IsSameBarrier old new
  pub waits : PolledWaiting old new
  pub going : me.stopped ≡ false
  pub same_rank : IsSameRank one me
  pub keeps : KeepsPost one before after
  pub stops : SameStops before after
  pub halts : after.halts ≡ before.halts

-- A barrier that a rank entered and left, of this number and at this round. These letters ran meanwhile.
pub record BarrierEnded {C : Type 0} (apply : Applies C) (start : C → C) (old new : BarrierState) (one me : Rank C) (before after : PostState) (number round : ℕ) : Type 0 where
  pub run : List Letter
  pub advanced : Advanced apply one me (before.log one.here) (after.log one.here) run
  pub grown : IsPrefix (before.log one.here) (after.log one.here)
  pub counted : PutAllBeforeCounts apply one (before.log one.here) (after.log one.here)
  pub stands : Stands apply start new me after
  pub left : PolledLeft old new (local_of me (after.log one.here)) number round
  pub stops : SameStops before after
  pub halts : after.halts ≡ before.halts

-- A barrier that ended with a fault: after polls that waited, one failed. It met the stop, or failed itself.
pub record BarrierFailed {C : Type 0} (apply : Applies C) (start : C → C) (old new : BarrierState) (one me : Rank C) (before after : PostState) (fault : CommFault) : Type 0 where
  pub barrier : BarrierState
  pub rank : Rank C
  pub post : PostState
  pub waited : HasWaited apply start old barrier one rank before post
  pub halted : IfStopped fault (PollHalted barrier new rank me post after)
  pub failed : UnlessStopped fault (PollFailed apply start barrier new rank me post after fault)
