-- How a rank's buffers are stored: a queue for each next hop. Only private functions and types cite this.
use Rattle.std.specs.Prelude.{ℕ, List, [], ◌∷◌, map}
use Rattle.msg_codec.specs.declared.letter.Letter.{Letter}
use Rattle.ygm_route.specs.declared.scheme.Scheme.{Scheme}
use Rattle.ygm_route.specs.Layout.{Shape}
use Rattle.send_buffers.specs.Buffers.{Buffered, Queue}

-- what is held for one next hop, and for how many more closed batches there is memory
pub record Stored : Type 0 where
  pub held : Queue
  pub room : ℕ

abbrev pub held_in : List Stored → List Queue
held_in stored = map (λ one. one.held) stored

abbrev pub room_in : List Stored → List ℕ
room_in stored = map (λ one. one.room) stored

-- for how many closed batches the open one keeps memory: for itself, while it has a letter
abbrev pub kept_for : List Letter → ℕ
kept_for [] = 0
kept_for (l ∷ letters) = 1

-- the buffers that are stored so
abbrev pub buffered : Shape → Scheme → ℕ → ℕ → List Stored → Buffered
buffered layout scheme here limit stored = record {
  layout = layout;
  scheme = scheme;
  here = here;
  limit = limit;
  queues = held_in stored;
  room = room_in stored;
}
