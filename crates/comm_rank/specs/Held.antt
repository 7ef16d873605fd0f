-- The letters that a rank holds, by the rank that they go to next.
use Rattle.std.specs.Prelude.{◌≡◌, ℕ, ◌+◌, ◌++◌, IsTrue, List, []}
use Rattle.std.specs.List.{AllByRecursion}
use Rattle.msg_codec.specs.declared.letter.Letter.{Letter}
use Rattle.send_buffers.specs.Buffers.{Queue, queue_at}
use Rattle.world_core.specs.Pairs.{is_data, of_pair, sent_number}

-- all of these are data letters
abbrev pub AreData : List Letter → Type 0
AreData letters = AllByRecursion (λ l. IsTrue (is_data l)) letters

-- no closed batch is held for this next hop
abbrev pub NoneClosed : List Queue → ℕ → Type 0
NoneClosed held next = (queue_at held next).closed ≡ []

-- no letter waits for others to join its batch
abbrev pub NoneOpen : List Queue → ℕ → Type 0
NoneOpen held next = (queue_at held next).gathered ≡ []

-- These letters are held in addition: of each pair of ranks they come last, and each counts for its sender.
pub record Gains (before after letters : List Letter) : Type 0 where
  pub pairs : (from to : ℕ) → of_pair from to after ≡ of_pair from to before ++ of_pair from to letters
  pub senders : (from : ℕ) → sent_number from after ≡ sent_number from before + sent_number from letters
