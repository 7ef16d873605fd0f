-- What is known of ranks that have passed so many barriers, and of what happens after the last.
use Rattle.std.specs.Prelude.{ℕ, ◌<◌, List}
use Rattle.std.specs.List.{AllByRecursion}
use Rattle.list_facts.specs.Prefix.{IsPrefix}
use Rattle.msg_codec.specs.declared.letter.Letter.{Letter}
use Rattle.world_core.specs.declared.entry.Entry.{Entry}
use Rattle.world_core.specs.Pairs.{arrived, pair_put, pair_taken}
use Rattle.comm_rank.specs.Fold.{Applies, given_by}
use Rattle.term_barrier.specs.Account.{Account, RankHandler}

-- Of one rank alone: it has an account of so many phases, and each letter that arrived came from a rank of the world.
pub record HasPassed {C : Type 0} (handler : RankHandler C) (own : ℕ → ℕ → List Letter) (cut : ℕ → ℕ) (phases : ℕ) (held : List Letter) (log : List Entry) : Type 0 where
  pub account : Account handler own cut phases held log
  pub senders : AllByRecursion (λ l. l.from < handler.ranks) (arrived handler.here log)

-- of each pair of ranks, what the one took is a prefix of what the other put
abbrev pub TookPrefixes : (ℕ → List Entry) → Type 0
TookPrefixes logs = (from to : ℕ) → IsPrefix (pair_taken from to (logs to)) (pair_put from to (logs from))

-- each letter that a handler gives has a higher level than the letter by which it gave it
abbrev pub LevelsRise : {C : Type 0} → Applies C → (Letter → ℕ) → Type 0
LevelsRise {C} apply level = (contents : C) (here ranks : ℕ) (l : Letter) →
    AllByRecursion (λ given. level l < level given) (given_by apply here ranks contents l)
