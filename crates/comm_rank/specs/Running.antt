-- What a rank does with the letters that it took. Only private functions cite this.
use Rattle.std.specs.Prelude.{◌≡◌, ◌≢◌, ℕ, ◌+◌, ◌<◌, ◌≤◌, Bool, false, not, ◌==◌, is_some, IsTrue, List, [], ◌∷◌, ◌++◌, length, if◌then◌else◌}
use Rattle.std.specs.List.{AllByRecursion, AllPairs, filter}
use Rattle.msg_codec.specs.Control.{control_of_letter, is_control}
use Rattle.msg_codec.specs.declared.letter.Letter.{Letter}
use Rattle.world_core.specs.declared.entry.Entry.{Entry}
use Rattle.world_core.specs.Log.{IsTake, batches_taken, letters_taken}
use Rattle.world_core.specs.Pairs.{is_data, for_rank, of_pair, sent_number}
use Rattle.world_core.specs.Post.{CountsNeverFall, SameFulls, SamePost, SameStops, PostState}
use Rattle.world_core.specs.Rules.{IsHonest}
use Rattle.comm_rank.specs.declared.fault.CommFault.{CommFault}
use Rattle.comm_rank.specs.Agrees.{Belongs, MayTurn}
use Rattle.comm_rank.specs.Fault.{IfCountFull}
use Rattle.comm_rank.specs.Fold.{Applies}
use Rattle.comm_rank.specs.Held.{AreData}
use Rattle.comm_rank.specs.Moves.{SameOpen}
use Rattle.comm_rank.specs.Rank.{Rank, folded, handed, held_letters, local_of}
use Rattle.comm_rank.specs.Told.{HeardOrLacksLast, with_letters}
use Rattle.comm_rank.specs.Turns.{Advanced, CutOff, HasBegun, IsCause, IsFullAfter, LookedAt, FullAtFirst, other_end}

-- A data letter that a rank, one of so many, took: it is for this rank, or another rank sent it.
pub record IsTaken (ranks here : ℕ) (l : Letter) : Type 0 where
  pub tag : IsTrue (is_data l)
  pub destination : l.to < ranks
  pub sender : l.from < ranks
  pub others : l.to ≢ here → l.from ≢ here

-- the first of these letters is a data letter for this rank
abbrev pub IsFirstFor : ℕ → List Letter → Type 0
IsFirstFor here [] = ⊥
IsFirstFor here (l ∷ letters) = IsTrue (is_data l) × (l.to ≡ here)

-- the letters that are for other ranks
abbrev pub elsewhere : ℕ → List Letter → List Letter
elsewhere here letters = filter (λ l. not (l.to == here)) letters

-- a data letter from this rank
pub record IsOf (rank : ℕ) (l : Letter) : Type 0 where
  pub sender : l.from ≡ rank
  pub tag : IsTrue (is_data l)

-- a batch begins with a letter that isn't a data letter
abbrev pub begins_with_control : List Letter → Bool
begins_with_control [] = false
begins_with_control (l ∷ letters) = not (is_data l)

-- The letters of a batch for handlers: all of them, or none where it begins with a control letter, which is alone in it.
abbrev pub for_handlers : List Letter → List Letter
for_handlers batch = if begins_with_control batch then [] else batch

-- a batch that is one control letter
pub record IsControl (batch : List Letter) : Type 0 where
  pub letter : Letter
  pub alone : batch ≡ letter ∷ []
  pub read : IsTrue (is_some (control_of_letter letter))

-- ---- letters that passed

-- Letters are held in addition, last of their pairs: those that the rank itself sent, and those of other ranks.
pub record GainsBoth (here : ℕ) (before after sent forwarded : List Letter) : Type 0 where
  pub own : (to : ℕ) → of_pair here to after ≡ of_pair here to before ++ of_pair here to sent
  pub number : sent_number here after ≡ sent_number here before + length sent
  pub others : (from to : ℕ) → from ≢ here → of_pair from to after ≡ of_pair from to before ++ of_pair from to forwarded
  pub data_alone : AreData before → AreData after

-- Of these letters those for the rank ran, and the tap heard them, and all that the handler gave is held; the others are
-- held to be forwarded.
pub record HasPassed {C : Type 0} (apply : Applies C) (old new : Rank C) (letters : List Letter) : Type 0 where
  pub contents : new.contents ≡ folded apply old (for_rank old.here letters)
  pub held : GainsBoth old.here (held_letters old) (held_letters new) (handed apply old (for_rank old.here letters)) (elsewhere old.here letters)
  pub run_count : new.run_count ≡ old.run_count + length (for_rank old.here letters)
  pub sent_count : new.sent_count ≡ old.sent_count + length (handed apply old (for_rank old.here letters))
  pub told : new.heard ≡ with_letters old.heard (for_rank old.here letters)

-- the letter that waited first ran or is held to be forwarded, and no longer waits
pub record PassedFirst {C : Type 0} (apply : Applies C) (old new : Rank C) : Type 0 where
  pub letter : Letter
  pub first : old.waiting ≡ letter ∷ new.waiting
  pub passed : HasPassed apply old new (letter ∷ [])

-- all letters that waited did
pub record PassedWaiting {C : Type 0} (apply : Applies C) (old new : Rank C) : Type 0 where
  pub passed : HasPassed apply old new old.waiting
  pub nothing_waits : new.waiting ≡ []

-- ---- a letter that couldn't run or be forwarded, or that the tap couldn't keep

-- These letters passed, though the tap may lack the last that ran. The next one had not begun to run; or, of what the
-- handler gave by it, only this first part is held.
pub record IsStuck {C : Type 0} (apply : Applies C) (old new : Rank C) (letters given : List Letter) : Type 0 where
  pub begun : HasBegun apply old.here old.layout.ranks (folded apply old (for_rank old.here letters)) new.contents new.waiting given
  pub held : GainsBoth old.here (held_letters old) (held_letters new) (handed apply old (for_rank old.here letters) ++ given) (elsewhere old.here letters)
  pub run_count : new.run_count ≡ old.run_count + length (for_rank old.here letters)
  pub sent_count : new.sent_count ≡ old.sent_count + length (handed apply old (for_rank old.here letters)) + length given
  pub told : HeardOrLacksLast old.heard new.heard (for_rank old.here letters)

-- the first of these letters, which waited, passed, and the others wait
pub record StuckIn {C : Type 0} (apply : Applies C) (old new : Rank C) (waiting : List Letter) (fault : CommFault) : Type 0 where
  pub letters : List Letter
  pub given : List Letter
  pub waits : waiting ≡ letters ++ new.waiting
  pub stuck : IsStuck apply old new letters given
  pub full_at_first : IfCountFull fault (λ _. IsFullAfter apply old new (for_rank old.here letters))
  pub cause : IsCause apply old new fault

-- ---- batches that were taken

-- The log gained takes, at most one from each rank and in the order of ranks.
pub record GainedTakes (before after taken : List Entry) : Type 0 where
  pub log : after ≡ before ++ taken
  pub takes : AllByRecursion IsTake taken
  pub in_order : AllPairs (λ one later. other_end one < other_end later) taken

-- A rank took batches, all their letters for it ran, and the control letters wait to be handed over. Where it took none,
-- the letters that wait for others to join their batch are unchanged.
pub record TookAll {C : Type 0} (apply : Applies C) (old new : Rank C) (before after : List Entry) (took : ℕ) : Type 0 where
  pub taken : List Entry
  pub gained : GainedTakes before after taken
  pub advanced : Advanced apply old new before after (for_rank old.here (letters_taken taken))
  pub nothing_waits : new.waiting ≡ []
  pub controls : new.controls ≡ old.controls ++ filter is_control (letters_taken taken)
  pub took_count : took ≡ length taken
  pub same_open : took ≡ 0 → SameOpen old.held new.held

-- the same of ranks below this one alone
pub record TookBelow {C : Type 0} (bound : ℕ) (apply : Applies C) (old new : Rank C) (before after : List Entry) (took : ℕ) : Type 0 where
  pub all : TookAll apply old new before after took
  pub below : AllByRecursion (λ entry. other_end entry < bound) all.taken

-- at most one batch, of this rank
pub record TookFrom {C : Type 0} (from : ℕ) (apply : Applies C) (old new : Rank C) (before after : List Entry) (took : ℕ) : Type 0 where
  pub all : TookAll apply old new before after took
  pub alone : AllByRecursion (λ entry. other_end entry ≡ from) all.taken
  pub one : took ≤ 1

-- cut off in the letters of a batch of this rank
pub record CutFrom {C : Type 0} (from : ℕ) (apply : Applies C) (old new : Rank C) (before after : List Entry) : Type 0 where
  pub cut : CutOff apply old new before after
  pub none_placed : cut.placed ≡ []
  pub alone : AllByRecursion (λ entry. other_end entry ≡ from) cut.taken
  pub one : length cut.taken ≤ 1

-- nothing was taken from a rank, and no miss was counted there
pub record NotLookedAt (here from : ℕ) (old new : PostState) : Type 0 where
  pub taken : batches_taken from (new.log here) ≡ batches_taken from (old.log here)
  pub misses : new.misses from ≡ old.misses from

-- ---- the outcomes of takes, for the rank and for what the post shows

-- from one rank
pub record HasTakenFrom {C : Type 0} (from : ℕ) (apply : Applies C) (start : C → C) (old new : Rank C)
    (before after : PostState) (took : ℕ) : Type 0 where
  pub taken : TookFrom from apply old new (before.log old.here) (after.log old.here) took
  pub belongs : Belongs apply start new after
  pub may_turn : MayTurn new (after.log old.here)
  pub looked : LookedAt old.here from before after
  pub others : (other : ℕ) → other ≢ from → NotLookedAt old.here other before after

-- cut off in a batch of one rank
pub record WasCutFrom {C : Type 0} (from : ℕ) (apply : Applies C) (old new : Rank C) (before after : List Entry) (fault : CommFault) : Type 0 where
  pub cut_from : CutFrom from apply old new before after
  pub full_at_first : IfCountFull fault (λ _. FullAtFirst apply old new before after)
  pub cause : IsCause apply old new fault

-- from each rank
pub record HasTakenAll {C : Type 0} (apply : Applies C) (start : C → C) (old new : Rank C)
    (before after : PostState) (took : ℕ) : Type 0 where
  pub taken : TookAll apply old new (before.log old.here) (after.log old.here) took
  pub belongs : Belongs apply start new after
  pub may_turn : MayTurn new (after.log old.here)
  pub takes_from_each : (from : ℕ) → from < old.layout.ranks → LookedAt old.here from before after

-- what work leaves unchanged at the post
pub record WorkKeeps {C : Type 0} (me : Rank C) (before after : PostState) : Type 0 where
  pub same : SamePost me.here before after
  pub honest : IsHonest (local_of me (before.log me.here)) → IsHonest (local_of me (after.log me.here))
  pub stops : SameStops before after
  pub halts : after.halts ≡ before.halts
  pub counts : CountsNeverFall before after

-- the same, and takes find no link full
pub record TakesKeep {C : Type 0} (me : Rank C) (before after : PostState) : Type 0 where
  pub work : WorkKeeps me before after
  pub fulls : SameFulls before after
