-- What a rank accounts for in its own log: how all that it has sent is made of its own letters and of what its handler
-- gave.
use Rattle.std.specs.Prelude.{◌≡◌, ℕ, ◌<◌, ◌≤◌, ◌==◌, List, [], ◌++◌, length, drop, take, if◌then◌else◌}
use Rattle.msg_codec.specs.declared.letter.Letter.{Letter}
use Rattle.world_core.specs.declared.entry.Entry.{Entry}
use Rattle.world_core.specs.Pairs.{arrived, of_pair, sent}
use Rattle.comm_rank.specs.Fold.{Applies, fold_from, handed_from}
use Rattle.comm_rank.specs.Rank.{Rank}
use Rattle.term_barrier.specs.Cuts.{phase_part, phase_start}
use Rattle.term_barrier.specs.Merge.{IsMerge}

-- the handler of a rank: what it does with a letter, what it starts from, its rank and the number of ranks
pub record RankHandler (C : Type 0) : Type 0 where
  pub apply : Applies C
  pub start : C
  pub here : ℕ
  pub ranks : ℕ

abbrev pub handler_of : {C : Type 0} → Applies C → (C → C) → Rank C → RankHandler C
handler_of apply start me = record { apply = apply; start = start me.contents; here = me.here; ranks = me.layout.ranks }

-- that of one of so many ranks, each with a start of its own
abbrev pub handler_at : {C : Type 0} → Applies C → ℕ → (ℕ → C) → ℕ → RankHandler C
handler_at apply ranks start rank = record { apply = apply; start = start rank; here = rank; ranks = ranks }

-- A rank is up to date with its log: all that arrived has run, and its contents are the fold of that.
pub record IsUpToDate {C : Type 0} (apply : Applies C) (start : C → C) (me : Rank C) (log : List Entry) : Type 0 where
  pub nothing_waits : me.waiting ≡ []
  pub contents : me.contents ≡ fold_from apply me.here me.layout.ranks (start me.contents) (arrived me.here log)

-- what the handler gave by the letters that arrived in a part of the log, after it ran those that arrived before it
abbrev pub given_in : {C : Type 0} → RankHandler C → List Entry → List Entry → List Letter
given_in handler before part =
    handed_from handler.apply handler.here handler.ranks
    (fold_from handler.apply handler.here handler.ranks handler.start (arrived handler.here before)) (arrived handler.here part)

-- What was sent to each rank in a part of the log, with what is held after it, is a merge: of these own letters, and of
-- what the handler gave in that part.
abbrev pub IsMadeOf : {C : Type 0} → RankHandler C → (ℕ → List Letter) → List Entry → List Entry → List Letter → Type 0
IsMadeOf handler own before part held =
    (to : ℕ) → IsMerge (own to) (of_pair handler.here to (given_in handler before part)) (sent handler.here to part held)

-- The account of a rank in a phase, with its own letters so far, by phase and destination. Those of each earlier phase,
-- merged with what the handler gave in it, are what the rank put in that part of its log. Those of the present phase,
-- merged so too, are what it has sent since that phase began.
pub record Account {C : Type 0} (handler : RankHandler C) (own : ℕ → ℕ → List Letter) (cut : ℕ → ℕ) (phase : ℕ) (held : List Letter) (log : List Entry) : Type 0 where
  pub order : (k : ℕ) → k < phase → phase_start cut k ≤ cut k
  pub within : (k : ℕ) → k < phase → cut k ≤ length log
  pub past : (k : ℕ) → k < phase → IsMadeOf handler (own k) (take (phase_start cut k) log) (phase_part cut k log) []
  pub present : IsMadeOf handler (own phase) (take (phase_start cut phase) log) (drop (phase_start cut phase) log) held

-- the own letters of a rank, with these more in a phase, each for its destination
abbrev pub with_more : ℕ → (ℕ → ℕ → List Letter) → ℕ → List Letter → ℕ → ℕ → List Letter
with_more here own phase letters k to = if k == phase then own k to ++ of_pair here to letters else own k to
