-- How held letters are stored. Only private functions and types cite this.
use Rattle.std.specs.Prelude.{◌≡◌, ℕ, ◌+◌, List, [], ◌∷◌, ◌++◌}
use Rattle.msg_codec.specs.declared.letter.Letter.{Letter}
use Rattle.send_buffers.specs.Buffers.{Buffered, queued}
use Rattle.send_buffers.specs.Calls.{InPlace}
use Rattle.world_core.specs.Pairs.{of_pair, sent_number}
use Rattle.ygm_route.specs.declared.scheme.Scheme.{Scheme}
use Rattle.ygm_route.specs.Layout.{Shape}
use Rattle.comm_rank.specs.Held.{AreData, Gains}

-- the buffers of this rank, with data letters alone
pub record AreOf (layout : Shape) (scheme : Scheme) (here : ℕ) (held : Buffered) : Type 0 where
  pub layout_is : held.layout ≡ layout
  pub scheme_is : held.scheme ≡ scheme
  pub here_is : held.here ≡ here
  pub data_alone : AreData (queued held.queues)

-- buffers of the same rank, with data letters alone if they were so before
pub record IsSameStore (before after : Buffered) : Type 0 where
  pub place : InPlace before after
  pub data_alone : AreData (queued before.queues) → AreData (queued after.queues)

-- These letters are no longer held: of each pair of ranks they came first, and each counted for its sender.
pub record Loses (before after letters : List Letter) : Type 0 where
  pub pairs : (from to : ℕ) → of_pair from to before ≡ of_pair from to letters ++ of_pair from to after
  pub senders : (from : ℕ) → sent_number from before ≡ sent_number from letters + sent_number from after

-- a letter is held in addition
abbrev pub Holds : Buffered → Buffered → Letter → Type 0
Holds before after l = Gains (queued before.queues) (queued after.queues) (l ∷ [])
