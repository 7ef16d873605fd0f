-- A batch that is handed out, and steps back.
use Rattle.std.proofs.Common.{◌≡◌, ℕ, ◌<◌, List, ◌∷◌, length, set, inl, inr, sym, ap, ◌∙◌, arith}
use Rattle.std.proofs.Math.ListN.{get_or-eq_default}
use Rattle.std.proofs.lemmas.Bool.{cases_lt}
use Rattle.std.proofs.lemmas.List.{set-get_or, set-set}
use Rattle.msg_codec.specs.declared.letter.Letter.{Letter}
use Rattle.send_buffers.specs.Buffers.{Buffered, Queue, empty_queue, queue_at}
use Rattle.send_buffers.specs.Calls.{HandsOut, with_batch_back}

-- there is a queue for its next hop
pub out_within : (old new : Buffered) (next : ℕ) (batch : List Letter) → HandsOut old new next batch → next < length old.queues
out_within old new next batch out = elim (cases_lt next (length old.queues)) [
  | inl within ↦ within
  | inr past ↦
      let none : queue_at old.queues next ≡ empty_queue = get_or-eq_default old.queues empty_queue past in
      let some : length (queue_at old.queues next).closed ≡ length (batch ∷ (queue_at new.queues next).closed) = ap (λ (q : Queue). length q.closed) out.oldest in
      absurd (omega (arith, some, ap (λ (q : Queue). length q.closed) none))
]

-- what was handed out and steps back gives the queues of before
pub stepped_back : (old new : Buffered) (next : ℕ) (batch : List Letter) → HandsOut old new next batch → with_batch_back new.queues next batch ≡ old.queues
stepped_back old new next batch out =
    ap (set new.queues next) (sym out.oldest) ∙ ap (λ qs. set qs next (queue_at old.queues next)) out.others
    ∙ set-set old.queues next (queue_at new.queues next) (queue_at old.queues next) ∙ set-get_or old.queues next empty_queue
