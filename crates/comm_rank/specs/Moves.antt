-- What a rank does as it puts what it holds. Only private functions cite this.
use Rattle.std.specs.Prelude.{◌≡◌, ◌≢◌, ℕ, ◌+◌, ◌-◌, ◌^◌, ◌<◌, ◌≤◌, Bool, true, false, IsTrue, Option, None, List, [], ◌++◌, length, min}
use Rattle.std.specs.List.{AllByRecursion}
use Rattle.world_core.specs.declared.entry.Entry.{Entry}
use Rattle.world_core.specs.Limits.{most_letters}
use Rattle.world_core.specs.Log.{IsPut}
use Rattle.world_core.specs.Pairs.{own_count, sent, sent_number}
use Rattle.world_core.specs.Post.{FullsRise, SameFulls, PostState, local_at}
use Rattle.world_core.specs.Rules.{IsHonest}
use Rattle.send_buffers.specs.Buffers.{Buffered, Queue, queue_at, queued}
use Rattle.send_buffers.specs.Calls.{InPlace}
use Rattle.comm_rank.specs.Agrees.{Forwards, MaySend, PutsData}
use Rattle.comm_rank.specs.declared.fault.CommFault.{CommFault}
use Rattle.comm_rank.specs.declared.fault.CommFault.TheVariants.{NoMemory}
use Rattle.comm_rank.specs.Held.{AreData, NoneClosed, NoneOpen}
use Rattle.comm_rank.specs.Rank.{Rank, held_letters, ran_at, sent_to}
use Rattle.comm_rank.specs.Turns.{FirstFull, MetFull, NoneOrFull, PutsKeep}

-- A rank may put what it holds: it is a rank of the post's world; it holds data letters, of others what it has to forward;
-- with those of its own it has sent no more than a rank may, and it may send them.
pub record MayPut (held : Buffered) (post : PostState) : Type 0 where
  pub serves : IsTrue (post.serves held.here)
  pub layout : post.layout ≡ held.layout
  pub scheme : post.scheme ≡ held.scheme
  pub data_alone : AreData (queued held.queues)
  pub forwards : Forwards (local_at post held.here) (queued held.queues)
  pub few : own_count held.here (post.log held.here) + sent_number held.here (queued held.queues) ≤ most_letters
  pub may_send : MaySend (local_at post held.here) (queued held.queues)

-- no letter joins or leaves those that wait for others to join their batch
abbrev pub SameOpen : List Queue → List Queue → Type 0
SameOpen before after = (next : ℕ) → (queue_at after next).gathered ≡ (queue_at before next).gathered

-- what is held for other next hops is unchanged
pub record OthersUnchanged (to : ℕ) (before after : List Queue) : Type 0 where
  pub all : length after ≡ length before
  pub others : (other : ℕ) → other ≢ to → queue_at after other ≡ queue_at before other

-- Letters moved from what a rank holds into its log, which gained honest puts of data letters alone. What was sent to
-- each rank is unchanged, and so is its count. A rank that may put what it holds still may, and what it holds of others'
-- letters is still what it has to forward.
pub record Moved (before after : Buffered) (old new : PostState) (placed : List Entry) : Type 0 where
  pub log : new.log before.here ≡ old.log before.here ++ placed
  pub puts : AllByRecursion IsPut placed
  pub data_alone : PutsData placed
  pub honest : IsHonest (local_at old before.here) → IsHonest (local_at new before.here)
  pub may_put : MayPut before old → MayPut after new
  pub sent_unchanged : (to : ℕ) →
      sent before.here to (new.log before.here) (queued after.queues) ≡ sent before.here to (old.log before.here) (queued before.queues)
  pub count_unchanged :
      own_count before.here (new.log before.here) + sent_number before.here (queued after.queues)
      ≡ own_count before.here (old.log before.here) + sent_number before.here (queued before.queues)
  pub same_open : SameOpen before.queues after.queues
  pub place : InPlace before after
  pub keeps : PutsKeep before.here old new

-- puts that lack of memory ended
pub record PutsFailed (before after : Buffered) (old new : PostState) (fault : CommFault) : Type 0 where
  pub placed : List Entry
  pub moved : Moved before after old new placed
  pub no_memory : fault ≡ NoMemory

-- ---- one put to a rank

-- the first batch for it was put, or the link was full
abbrev pub PutsOne : Bool → ℕ → List Queue → List Queue → PostState → PostState → Type 0
PutsOne true to before after old new = (length (queue_at before to).closed ≡ length (queue_at after to).closed + 1) × SameFulls old new
PutsOne false to before after old new = MetFull to after old new × FullsRise to old new

-- how many batches that is
abbrev pub put_count : Bool → ℕ
put_count true = 1
put_count false = 0

pub record HasPutFirst (to : ℕ) (before after : Buffered) (old new : PostState) (put : Bool) : Type 0 where
  pub placed : List Entry
  pub moved : Moved before after old new placed
  pub count : length placed ≡ put_count put
  pub one : PutsOne put to before.queues after.queues old new

-- ---- puts to one rank

-- the link is full, or no closed batch is held for it
abbrev pub PutUntil : Bool → ℕ → List Queue → PostState → PostState → Type 0
PutUntil true to held old new = MetFull to held old new × FullsRise to old new
PutUntil false to held old new = NoneClosed held to × SameFulls old new

pub record HasPutTo (to : ℕ) (before after : Buffered) (old new : PostState) (put : ℕ) (full : Bool) : Type 0 where
  pub placed : List Entry
  pub moved : Moved before after old new placed
  pub count : put ≡ length placed
  pub until : PutUntil full to after.queues old new

-- ---- puts to all ranks

pub record HasPutEach (ranks : ℕ) (before after : Buffered) (old new : PostState) (put : ℕ) (full : Option ℕ) : Type 0 where
  pub placed : List Entry
  pub moved : Moved before after old new placed
  pub count : put ≡ min (length placed) (2 ^ 64 - 1)
  pub none_or_full : (to : ℕ) → to < ranks → NoneOrFull to after.queues old new
  pub first_full : FirstFull ranks after.queues old new full
  pub none_closed : full ≡ None → (to : ℕ) → to < ranks → NoneClosed after.queues to

-- Puts of a rank: its log gained puts of data letters alone. What it has sent, what ran, and all of the rank but what it
-- holds are unchanged.
pub record PutOut {C : Type 0} (old new : Rank C) (before after placed : List Entry) : Type 0 where
  pub log : after ≡ before ++ placed
  pub puts : AllByRecursion IsPut placed
  pub data_alone : PutsData placed
  pub rank : new ≡ record old { held = new.held }
  pub sent : (to : ℕ) → sent_to new after to ≡ sent_to old before to
  pub same_open : SameOpen old.held new.held
  pub ran : ran_at new after ≡ ran_at old before

pub record HasPutAll {C : Type 0} (old new : Rank C) (before after : PostState) (put : ℕ) (full : Option ℕ) : Type 0 where
  pub placed : List Entry
  pub out : PutOut old new (before.log old.here) (after.log old.here) placed
  pub count : put ≡ min (length placed) (2 ^ 64 - 1)
  pub none_or_full : (to : ℕ) → to < old.layout.ranks → NoneOrFull to new.held before after
  pub first_full : FirstFull old.layout.ranks new.held before after full
  pub none_held : full ≡ None → ((to : ℕ) → to < old.layout.ranks → NoneOpen new.held to) → held_letters new ≡ []

pub record PutAllFailed {C : Type 0} (old new : Rank C) (before after : PostState) (fault : CommFault) : Type 0 where
  pub placed : List Entry
  pub out : PutOut old new (before.log old.here) (after.log old.here) placed
  pub no_memory : fault ≡ NoMemory
