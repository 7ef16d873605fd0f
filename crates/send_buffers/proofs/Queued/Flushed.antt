-- Closed batches: the letters are unchanged.
use Rattle.std.proofs.Common.{◌≡◌, ℕ, zero, suc, List, [], ◌∷◌, ◌++◌, map, refl, ap, ◌∙◌}
use Rattle.msg_codec.specs.declared.letter.Letter.{Letter}
use Rattle.send_buffers.specs.Buffers.{Queue, closed_up, closed_with, letters_in, queue_at, queued}
use Rattle.send_buffers.proofs.Queued.Queues.{letters-closed_up}

pub queued-closed_up : (queues : List Queue) → queued (map closed_up queues) ≡ queued queues
queued-closed_up [] = refl
queued-closed_up (queue ∷ queues) = ap (λ xs. xs ++ queued (map closed_up queues)) (letters-closed_up queue) ∙ ap (λ xs. letters_in queue ++ xs) (queued-closed_up queues)

none_open : (closed : List (List Letter)) (letters : List Letter) → (closed_with closed letters).gathered ≡ []
none_open closed [] = refl
none_open closed (first ∷ others) = refl

-- and no batch is open
pub closed_up-open : (queues : List Queue) (next : ℕ) → (queue_at (map closed_up queues) next).gathered ≡ []
closed_up-open [] next = refl
closed_up-open (queue ∷ queues) zero = none_open queue.closed queue.gathered
closed_up-open (queue ∷ queues) (suc next) = closed_up-open queues next
