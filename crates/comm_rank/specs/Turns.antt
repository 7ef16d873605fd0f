-- What a turn of a rank does, and what turns and puts leave unchanged at the post.
use Rattle.std.specs.Prelude.{◌≡◌, ◌⊎◌, ◌≢◌, ℕ, ◌+◌, ◌-◌, ◌^◌, ◌<◌, true, List, [], ◌∷◌, ◌++◌, Option, Some, None, length, min, slice_get, take}
use Rattle.std.specs.List.{AllByRecursion, AllPairs, filter}
use Rattle.msg_codec.specs.Control.{is_control}
use Rattle.msg_codec.specs.declared.letter.Letter.{Letter}
use Rattle.send_buffers.specs.Buffers.{Queue}
use Rattle.world_core.specs.declared.entry.Entry.{Entry}
use Rattle.world_core.specs.declared.entry.Entry.TheVariants.{Put, Took}
use Rattle.world_core.specs.Log.{IsPut, IsTake, batches_taken, letters_taken}
use Rattle.world_core.specs.Pairs.{for_rank, of_pair}
use Rattle.world_core.specs.Post.{CountsNeverFall, SameFulls, SameMisses, SamePost, SameStops, PostState}
use Rattle.world_core.specs.Rising.{Rose}
use Rattle.world_core.specs.Rules.{IsHonest}
use Rattle.comm_rank.specs.declared.turn.Turn.{Turn}
use Rattle.comm_rank.specs.declared.fault.CommFault.{CommFault}
use Rattle.comm_rank.specs.Agrees.{Belongs, MayTurn, PutsData}
use Rattle.comm_rank.specs.Fault.{GivesIfFull, IfCountFull, IsFullAt, NeverStopped}
use Rattle.comm_rank.specs.Fold.{Applies, given_by}
use Rattle.comm_rank.specs.Held.{NoneClosed, NoneOpen}
use Rattle.comm_rank.specs.Rank.{Rank, folded, halted, handed, held_letters, local_of, ran_at, sent_to}
use Rattle.comm_rank.specs.Told.{HeardOrLacksLast, with_letters}

-- ---- what its log gains

-- the rank at the other end of the link
abbrev pub other_end : Entry → ℕ
other_end (Put to letters) = to
other_end (Took from letters) = from

-- The log gained takes, at most one from each rank and in the order of ranks, and then puts of data letters alone.
pub record Gained (before after taken placed : List Entry) : Type 0 where
  pub log : after ≡ before ++ taken ++ placed
  pub takes : AllByRecursion IsTake taken
  pub in_order : AllPairs (λ one later. other_end one < other_end later) taken
  pub puts : AllByRecursion IsPut placed
  pub data_alone : PutsData placed

-- ---- what it ran and sent

-- These letters ran at a rank, and no others: they are the last that ran there, its contents are folded by them, and what
-- its handler gave is the last that it sent, all of it and in order. Both are counted. They are the last that its tap heard.
pub record Advanced {C : Type 0} (apply : Applies C) (old new : Rank C) (before after : List Entry) (run : List Letter) :
    Type 0 where
  pub ran : ran_at new after ≡ ran_at old before ++ run
  pub contents : new.contents ≡ folded apply old run
  pub sent : (to : ℕ) → sent_to new after to ≡ sent_to old before to ++ of_pair old.here to (handed apply old run)
  pub run_count : new.run_count ≡ old.run_count + length run
  pub sent_count : new.sent_count ≡ old.sent_count + length (handed apply old run)
  pub told : new.heard ≡ with_letters old.heard run

-- A turn that ended: all letters for the rank in the batches that it took ran, and the control letters wait to be handed
-- over. It tells how many batches it took, and how many it put, at most the largest `u64`.
pub record Turned {C : Type 0} (apply : Applies C) (old new : Rank C) (before after : List Entry) (turn : Turn) : Type 0 where
  pub taken : List Entry
  pub placed : List Entry
  pub gained : Gained before after taken placed
  pub advanced : Advanced apply old new before after (for_rank old.here (letters_taken taken))
  pub nothing_waits : new.waiting ≡ []
  pub controls : new.controls ≡ old.controls ++ filter is_control (letters_taken taken)
  pub took : turn.took ≡ length taken
  pub put : turn.put ≡ min (length placed) (2 ^ 64 - 1)

-- The letter that waits first had not begun to run; or the handler ran it, and only the first letters that it gave were
-- sent.
abbrev pub HasBegun : {C : Type 0} → Applies C → ℕ → ℕ → C → C → List Letter → List Letter → Type 0
HasBegun apply here ranks before after waiting given =
    ((after ≡ before) × (given ≡ []))
    ⊎ ((l : Letter) × (k : ℕ) × (slice_get waiting 0 ≡ Some l) × (after ≡ (apply before here ranks l).0)
    × (k < length (given_by apply here ranks before l)) × (given ≡ take k (given_by apply here ranks before l)))

-- A turn that was cut off: of the letters for the rank in the batches that it took, the first ran, and the others wait.
-- The tap heard those that ran, or, out of memory, all of them but the last. The control letters wait to be handed over.
pub record CutOff {C : Type 0} (apply : Applies C) (old new : Rank C) (before after : List Entry) : Type 0 where
  pub taken : List Entry
  pub placed : List Entry
  pub run : List Letter
  pub given : List Letter
  pub gained : Gained before after taken placed
  pub arrived : for_rank old.here (letters_taken taken) ≡ run ++ for_rank old.here new.waiting
  pub ran : ran_at new after ≡ ran_at old before ++ run
  pub controls : new.controls ≡ old.controls ++ filter is_control (letters_taken taken)
  pub begun : HasBegun apply old.here old.layout.ranks (folded apply old run) new.contents new.waiting given
  pub sent : (to : ℕ) → sent_to new after to ≡ sent_to old before to ++ of_pair old.here to (handed apply old run ++ given)
  pub run_count : new.run_count ≡ old.run_count + length run
  pub sent_count : new.sent_count ≡ old.sent_count + length (handed apply old run) + length given
  pub told : HeardOrLacksLast old.heard new.heard run

-- After these letters, which ran and which the tap heard, one more is too many: with what the handler gives by the letter
-- that waits first the rank would have sent more than it may.
pub record IsFullAfter {C : Type 0} (apply : Applies C) (old new : Rank C) (run : List Letter) : Type 0 where
  pub next : Letter
  pub waits : slice_get new.waiting 0 ≡ Some next
  pub too_many : old.most < old.sent_count + length (handed apply old (run ++ next ∷ []))
  pub told : new.heard ≡ with_letters old.heard run

-- A full count came at the first letter that is too many: all letters before it ran.
pub record FullAtFirst {C : Type 0} (apply : Applies C) (old new : Rank C) (before after : List Entry) : Type 0 where
  pub run : List Letter
  pub ran : ran_at new after ≡ ran_at old before ++ run
  pub full : IsFullAfter apply old new run

-- ---- why it failed

-- The cause of a fault of the rank itself, which met no stop: a full count is reported only by a rank that has sent as
-- many letters as it may, and only where a handler sends others.
pub record IsCause {C : Type 0} (apply : Applies C) (old new : Rank C) (fault : CommFault) : Type 0 where
  pub count_full : IsFullAt new.sent_count old.most fault
  pub gave : GivesIfFull apply fault
  pub never_stopped : NeverStopped fault

-- a turn that was cut off, and why
pub record WasCut {C : Type 0} (apply : Applies C) (old new : Rank C) (before after : List Entry) (fault : CommFault) : Type 0 where
  pub cut_off : CutOff apply old new before after
  pub full_at_first : IfCountFull fault (λ _. FullAtFirst apply old new before after)
  pub cause : IsCause apply old new fault

-- ---- what it found at the post

-- it took one batch from the rank, or found none
abbrev pub LookedAt : ℕ → ℕ → PostState → PostState → Type 0
LookedAt here from old new =
    (length (batches_taken from (new.log here)) ≡ length (batches_taken from (old.log here)) + 1)
    ⊎ Rose (old.misses from) (new.misses from)

-- the link to a rank was found full, with a closed batch for it that is still held
pub record MetFull (to : ℕ) (held : List Queue) (old new : PostState) : Type 0 where
  pub rose : Rose (old.fulls to) (new.fulls to)
  pub some : NoneClosed held to → ⊥

-- no closed batch is held for a rank, or the link to it was found full
abbrev pub NoneOrFull : ℕ → List Queue → PostState → PostState → Type 0
NoneOrFull to held old new = NoneClosed held to ⊎ MetFull to held old new

-- This rank, one of so many, is the lowest to which the link was found full, and a closed batch for it is still held.
pub record IsFirstFull (ranks to : ℕ) (held : List Queue) (old new : PostState) : Type 0 where
  pub within : to < ranks
  pub rose : Rose (old.fulls to) (new.fulls to)
  pub some : NoneClosed held to → ⊥
  pub lower : (rank : ℕ) → rank < to → new.fulls rank ≡ old.fulls rank

-- such a rank, or no link was found full
abbrev pub FirstFull : ℕ → List Queue → PostState → PostState → Option ℕ → Type 0
FirstFull ranks held old new None = SameFulls old new
FirstFull ranks held old new (Some to) = IsFirstFull ranks to held old new

-- ---- the outcomes of a turn: for the rank before and after it, and for what the post shows

-- It ended. From each link it took one batch or found none, and for each next hop it put closed batches until none was left
-- or the link was found full. Where no link was, it took nothing and no batch was open before, no letter is held. The rank
-- still belongs to the post, and may take the next turn. It met no stop, and who has raised the stop is unchanged.
pub record HasEnded {C : Type 0} (apply : Applies C) (start : C → C) (old new : Rank C) (before after : PostState)
    (turn : Turn) : Type 0 where
  pub turned : Turned apply old new (before.log old.here) (after.log old.here) turn
  pub belongs : Belongs apply start new after
  pub may_turn : MayTurn new (after.log old.here)
  pub takes_from_each : (from : ℕ) → from < old.layout.ranks → LookedAt old.here from before after
  pub puts_to_each : (to : ℕ) → to < old.layout.ranks → NoneOrFull to new.held before after
  pub full : FirstFull old.layout.ranks new.held before after turn.full
  pub none_held : turn.full ≡ None → turn.took ≡ 0 → ((to : ℕ) → to < old.layout.ranks → NoneOpen old.held to) →
      held_letters new ≡ []
  pub stops : SameStops before after
  pub halts : after.halts ≡ before.halts

-- It met the stop and did nothing: the rank is stopped and otherwise unchanged, and so are its log and who has raised the
-- stop.
pub record HasHalted {C : Type 0} (old new : Rank C) (before after : PostState) : Type 0 where
  pub does_nothing : new ≡ halted old
  pub log : after.log old.here ≡ before.log old.here
  pub stops : SameStops before after
  pub halts : Rose before.halts after.halts

-- It was cut off: it had met no stop, and the rank raised the stop.
pub record HasFailed {C : Type 0} (apply : Applies C) (old new : Rank C) (before after : PostState) (fault : CommFault) :
    Type 0 where
  pub was_cut : WasCut apply old new (before.log old.here) (after.log old.here) fault
  pub raises_the_stop : after.raised old.here ≡ true
  pub halts : after.halts ≡ before.halts

-- ---- what stays the same at the post

-- What each turn leaves unchanged at the post: its world, the ranks that it serves, the logs of other ranks, and whether
-- these have raised the stop. An honest log stays honest, and no count falls.
pub record KeepsPost {C : Type 0} (me : Rank C) (before after : PostState) : Type 0 where
  pub same : SamePost me.here before after
  pub honest : IsHonest (local_of me (before.log me.here)) → IsHonest (local_of me (after.log me.here))
  pub other_stops : (rank : ℕ) → rank ≢ me.here → after.raised rank ≡ before.raised rank
  pub counts : CountsNeverFall before after

-- What puts leave unchanged there: its world, the ranks that it serves, the logs of other ranks, who has raised the stop,
-- and its counts of misses and of halts. No count falls.
pub record PutsKeep (here : ℕ) (before after : PostState) : Type 0 where
  pub same : SamePost here before after
  pub stops : SameStops before after
  pub misses : SameMisses before after
  pub halts : after.halts ≡ before.halts
  pub counts : CountsNeverFall before after
