-- When a rank and its log belong together.
use Rattle.std.specs.Prelude.{◌≡◌, ◌≢◌, ◌⊎◌, ℕ, ◌+◌, ◌<◌, ◌≤◌, true, IsTrue, List, [], length}
use Rattle.std.specs.List.{AllByRecursion, filter}
use Rattle.list_facts.specs.Prefix.{IsSuffix}
use Rattle.list_facts.specs.Sublist.{IsSublist}
use Rattle.msg_codec.specs.Control.{is_control}
use Rattle.msg_codec.specs.declared.letter.Letter.{Letter}
use Rattle.world_core.specs.declared.entry.Entry.{Entry}
use Rattle.world_core.specs.ControlRules.{is_free}
use Rattle.world_core.specs.Counts.{before_count, counts}
use Rattle.world_core.specs.Local.{Local, to_forward}
use Rattle.world_core.specs.Log.{letters_put, letters_taken}
use Rattle.world_core.specs.Modest.{IsModest}
use Rattle.world_core.specs.Pairs.{arrived, is_data, of_pair, of_sender, own_count, pair_put, pair_taken, sent_number}
use Rattle.world_core.specs.Post.{PostState}
use Rattle.comm_rank.specs.Fold.{Applies, fold_from, handed_from}
use Rattle.comm_rank.specs.Rank.{Rank, local_of, held_letters, sent_to, ran_at}

-- What a handler gave by the letters that a log took before a Count was put before that Count: for each Count and each
-- destination it is among the own letters put there.
abbrev pub IsServed : {C : Type 0} → Applies C → ℕ → ℕ → C → List Entry → Type 0
IsServed apply here ranks contents log = (q to : ℕ) → q < counts log →
    IsSublist
    (of_pair here to (handed_from apply here ranks contents (arrived here (before_count q log))))
    (pair_put here to (before_count q log))

-- A rank holds of others' letters what it has to forward, and put no more of a pair than it took.
pub record Forwards (me : Local) (letters : List Letter) : Type 0 where
  pub held : (from to : ℕ) → from ≢ me.here → of_pair from to letters ≡ to_forward me from to
  pub no_more_put : (from to : ℕ) → from ≢ me.here → length (pair_put from to me.log) ≤ length (pair_taken from to me.log)

-- A rank agrees with a log: all that came has run, what it holds of other senders is what it has to forward, its counts
-- are those of the letters that it sent and ran, its contents are the fold of what ran, all that its handler gave was
-- sent, and the log is modest. The control letters that weren't handed over yet are the last that came, and before each
-- Count the rank had put all that its handler had given.
pub record Agrees {C : Type 0} (apply : Applies C) (start : C → C) (me : Rank C) (log : List Entry) : Type 0 where
  pub nothing_waits : me.waiting ≡ []
  pub forwards : Forwards (local_of me log) (held_letters me)
  pub sent_count : me.sent_count ≡ own_count me.here log + sent_number me.here (held_letters me)
  pub run_count : me.run_count ≡ length (ran_at me log)
  pub contents : me.contents ≡ fold_from apply me.here me.layout.ranks (start me.contents) (ran_at me log)
  pub given_is_sent : (to : ℕ) → IsSublist
      (of_pair me.here to (handed_from apply me.here me.layout.ranks (start me.contents) (ran_at me log)))
      (sent_to me log to)
  pub modest : IsModest (local_of me log)
  pub controls : IsSuffix me.controls (filter is_control (letters_taken log))
  pub served : IsServed apply me.here me.layout.ranks (start me.contents) log

-- A rank belongs to a post: the post serves it and is of the same world, and the rank agrees with its log there.
pub record Belongs {C : Type 0} (apply : Applies C) (start : C → C) (me : Rank C) (post : PostState) : Type 0 where
  pub serves : IsTrue (post.serves me.here)
  pub layout : post.layout ≡ me.layout
  pub scheme : post.scheme ≡ me.scheme
  pub agrees : Agrees apply start me (post.log me.here)

-- a log that put data letters alone
abbrev pub PutsData : List Entry → Type 0
PutsData log = AllByRecursion (λ l. IsTrue (is_data l)) (letters_put log)

-- A rank may put the letters of its own that it holds: its log is free, which it is unless the rank is idle in a barrier;
-- or it holds none.
abbrev pub MaySend : Local → List Letter → Type 0
MaySend me held = (is_free me ≡ true) ⊎ (of_sender me.here held ≡ [])

-- a rank may take a turn: it may put the letters of its own that it holds
abbrev pub MayTurn : {C : Type 0} → Rank C → List Entry → Type 0
MayTurn me log = MaySend (local_of me log) (held_letters me)
