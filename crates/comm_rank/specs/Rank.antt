-- What is seen of a rank, and what it has sent and run.
use Rattle.std.specs.Prelude.{◌≡◌, ℕ, ◌+◌, Bool, false, true, List, [], ◌∷◌, ◌++◌, map, replicate}
use Rattle.msg_codec.specs.declared.letter.Letter.{Letter}
use Rattle.ygm_route.specs.declared.scheme.Scheme.{Scheme}
use Rattle.ygm_route.specs.Layout.{Shape}
use Rattle.world_core.specs.declared.entry.Entry.{Entry}
use Rattle.world_core.specs.Local.{Local, local_rank}
use Rattle.send_buffers.specs.Buffers.{Queue, closed_up, empty_queue, queued}
use Rattle.world_core.specs.Pairs.{of_pair, ran, ran_from as pair_ran, sent}
use Rattle.ygm_taps.specs.Heard.{Heard}
use Rattle.comm_rank.specs.Fold.{Applies, fold_from, handed_from}
use Rattle.comm_rank.specs.Held.{Gains, NoneOpen}

-- Its place in its world, how many letters it may send, what its handler keeps, its counts, the letters that it holds by
-- the rank that they go to next, the letters that it took and that still wait, the control letters that it took and that
-- weren't handed over yet, whether it is stopped, and what its tap has heard.
pub record Rank (C : Type 0) : Type 0 where
  pub layout : Shape
  pub scheme : Scheme
  pub here : ℕ
  pub most : ℕ
  pub contents : C
  pub sent_count : ℕ
  pub run_count : ℕ
  pub held : List Queue
  pub waiting : List Letter
  pub controls : List Letter
  pub stopped : Bool
  pub heard : Heard

-- a rank that has sent and run nothing, with a tap that has heard this before
abbrev pub fresh_rank : {C : Type 0} → Shape → Scheme → ℕ → ℕ → C → Heard → Rank C
fresh_rank layout scheme here most contents heard = record {
  layout = layout;
  scheme = scheme;
  here = here;
  most = most;
  contents = contents;
  sent_count = 0;
  run_count = 0;
  held = replicate layout.ranks empty_queue;
  waiting = [];
  controls = [];
  stopped = false;
  heard = heard;
}

-- the rank as the rules see it, with its log
abbrev pub local_of : {C : Type 0} → Rank C → List Entry → Local
local_of me log = local_rank me.layout me.scheme me.here log

-- the letters that it holds, whatever their destination
abbrev pub held_letters : {C : Type 0} → Rank C → List Letter
held_letters me = queued me.held

-- what it has sent to a rank: what its log put, followed by what it still holds
abbrev pub sent_to : {C : Type 0} → Rank C → List Entry → ℕ → List Letter
sent_to me log to = sent me.here to log (held_letters me)

-- what ran there: the letters for it that its log took, without those that still wait
abbrev pub ran_at : {C : Type 0} → Rank C → List Entry → List Letter
ran_at me log = ran me.here log me.waiting

-- those of one sender
abbrev pub ran_from : {C : Type 0} → Rank C → List Entry → ℕ → List Letter
ran_from me log from = pair_ran from me.here log me.waiting

-- what becomes of its contents while letters run, one after another, and what its handler gives then
abbrev pub folded : {C : Type 0} → Applies C → Rank C → List Letter → C
folded apply me letters = fold_from apply me.here me.layout.ranks me.contents letters

abbrev pub handed : {C : Type 0} → Applies C → Rank C → List Letter → List Letter
handed apply me letters = handed_from apply me.here me.layout.ranks me.contents letters

-- it holds no letter, and none waits to run
abbrev pub IsIdle : {C : Type 0} → Rank C → Type 0
IsIdle me = (held_letters me ≡ []) × (me.waiting ≡ [])

-- ---- what calls do to a rank

-- the rank, stopped and otherwise unchanged
abbrev pub halted : {C : Type 0} → Rank C → Rank C
halted me = record me { stopped = true }

-- A letter was sent: it is held, it is the last that was sent to its destination, and it is counted. All else of the rank
-- is unchanged.
pub record HasSent {C : Type 0} (old new : Rank C) (l : Letter) : Type 0 where
  pub held : Gains (held_letters old) (held_letters new) (l ∷ [])
  pub sent : (log : List Entry) (to : ℕ) → sent_to new log to ≡ sent_to old log to ++ of_pair old.here to (l ∷ [])
  pub rank : new ≡ record old { sent_count = old.sent_count + 1; held = new.held }

-- Its batches were closed: of each next hop it holds the same letters. All else of the rank is unchanged.
pub record HasFlushed {C : Type 0} (old new : Rank C) : Type 0 where
  pub closed : new.held ≡ map closed_up old.held
  pub none_open : (next : ℕ) → NoneOpen new.held next
  pub same_letters : held_letters new ≡ held_letters old
  pub rank : new ≡ record old { held = new.held }

-- Letters ran at the rank, and its tap was given them: of it, only these fields changed.
abbrev pub OnlyRan : {C : Type 0} → Rank C → Rank C → Type 0
OnlyRan old new = new ≡ record old {
  contents = new.contents;
  sent_count = new.sent_count;
  run_count = new.run_count;
  held = new.held;
  waiting = new.waiting;
  heard = new.heard;
}

-- It took batches, whose letters ran or wait, or it put letters into its links: of it, only these fields changed.
abbrev pub Worked : {C : Type 0} → Rank C → Rank C → Type 0
Worked old new = new ≡ record old {
  contents = new.contents;
  sent_count = new.sent_count;
  run_count = new.run_count;
  held = new.held;
  waiting = new.waiting;
  controls = new.controls;
  heard = new.heard;
}

-- the same rank of the same world
pub record IsSameRank {C : Type 0} (old new : Rank C) : Type 0 where
  pub layout : new.layout ≡ old.layout
  pub scheme : new.scheme ≡ old.scheme
  pub here : new.here ≡ old.here
  pub most : new.most ≡ old.most
