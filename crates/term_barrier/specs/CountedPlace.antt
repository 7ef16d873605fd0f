-- The places of a log where a Count was put.
use Rattle.std.specs.Prelude.{◌≡◌, ℕ, ◌<◌, ◌≤◌, List, [], length, drop, take}
use Rattle.msg_codec.specs.declared.letter.Letter.{Letter}
use Rattle.world_core.specs.declared.entry.Entry.{Entry}
use Rattle.world_core.specs.Counts.{before_count, counts}
use Rattle.world_core.specs.Pairs.{arrived, of_pair, pair_put, sent}
use Rattle.term_barrier.specs.Account.{IsMadeOf, RankHandler, given_in}
use Rattle.term_barrier.specs.Cuts.{between}

-- entries that put no data letter of this rank and took none for it, as those of Counts and Totals
pub record MovesNone (here : ℕ) (entries : List Entry) : Type 0 where
  pub puts : (to : ℕ) → pair_put here to entries ≡ []
  pub takes : arrived here entries ≡ []

-- A counted place, in a phase that began at another place of the log: all own letters of the phase, merged with what
-- the handler gave, are what was put up to it; and what was sent since is just what the handler gave since. A rank keeps
-- this of each place where it put a Count, since a merge of the whole phase doesn't say how it parts there.
pub record IsCountedPlace {C : Type 0} (handler : RankHandler C) (own : ℕ → List Letter) (begin place : ℕ) (held : List Letter) (log : List Entry) : Type 0 where
  pub order : begin ≤ place
  pub within : place ≤ length log
  pub before : IsMadeOf handler own (take begin log) (between begin place log) []
  pub since : (to : ℕ) → sent handler.here to (drop place log) held ≡ of_pair handler.here to (given_in handler (take place log) (drop place log))

-- each Count that a log put is at a counted place, from a round on: that in which the rank entered its barrier
abbrev pub AreCountedPlaces : {C : Type 0} → RankHandler C → (ℕ → List Letter) → ℕ → ℕ → List Letter → List Entry → Type 0
AreCountedPlaces handler own begin first held log =
    (q : ℕ) → first ≤ q → q < counts log → IsCountedPlace handler own begin (length (before_count q log)) held log
