-- Runs of handlers that give no letters, so that all letters are own letters.
use Rattle.std.specs.Prelude.{◌≡◌, ℕ, ◌<◌, List, []}
use Rattle.msg_codec.specs.declared.letter.Letter.{Letter}
use Rattle.world_core.specs.declared.entry.Entry.{Entry}
use Rattle.comm_rank.specs.Fold.{Applies, given_by}
use Rattle.term_barrier.specs.Account.{handler_at}
use Rattle.term_barrier.specs.CompleteRun.{OwnLetters}
use Rattle.term_barrier.specs.Cuts.{AreQuietCuts}
use Rattle.term_barrier.specs.Passed.{HasPassed, TookPrefixes}

-- the handler gives no letter, whatever its contents, its rank, the number of ranks and the letter that runs
abbrev pub IsSilent : {C : Type 0} → Applies C → Type 0
IsSilent {C} apply = (contents : C) (here ranks : ℕ) (l : Letter) → given_by apply here ranks contents l ≡ []

-- What is known of all ranks once they have passed their last barrier, and none has sent an own letter since: each has an
-- account of all phases, the cuts are quiet, and of each pair the one took a prefix of what the other put.
pub record HavePassed {C : Type 0} (apply : Applies C) (ranks phases : ℕ) (start : ℕ → C) (own : OwnLetters) (cuts : ℕ → ℕ → ℕ) (held : ℕ → List Letter) (logs : ℕ → List Entry) : Type 0 where
  pub each : (rank : ℕ) → rank < ranks →
      HasPassed (handler_at apply ranks start rank) (own rank) (cuts rank) phases (held rank) (logs rank)
  pub none_since : (rank to : ℕ) → rank < ranks → own rank phases to ≡ []
  pub quiet : AreQuietCuts ranks phases logs cuts
  pub took : TookPrefixes logs
