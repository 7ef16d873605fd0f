-- What holds of all letters that are held, and of those for each next hop.
use Rattle.std.proofs.Common.{◌≡◌, ℕ, zero, suc, ◌<◌, List, [], ◌∷◌, ◌++◌, length, refl, ap, ◌∙◌, arith}
use Rattle.std.specs.List.{AllByRecursion}
use Rattle.list_facts.proofs.Elements.{all_append, all_first, all_second}
use Rattle.msg_codec.specs.declared.letter.Letter.{Letter}
use Rattle.send_buffers.specs.Buffers.{Queue, letters_in, queue_at, queued}
use Rattle.comm_rank.specs.Held.{NoneClosed, NoneOpen}

pub all_at : (P : Letter → Type 0) (queues : List Queue) (next : ℕ) → AllByRecursion P (queued queues) → AllByRecursion P (letters_in (queue_at queues next))
all_at P [] next all = tt
all_at P (queue ∷ queues) zero all = all_first P (letters_in queue) (queued queues) all
all_at P (queue ∷ queues) (suc next) all = all_at P queues next (all_second P (letters_in queue) (queued queues) all)

pub all_of_each : (P : Letter → Type 0) (queues : List Queue) → ((next : ℕ) → next < length queues → AllByRecursion P (letters_in (queue_at queues next))) →
    AllByRecursion P (queued queues)
all_of_each P [] each = tt
all_of_each P (queue ∷ queues) each =
    all_append P (letters_in queue) (queued queues) (each zero (omega arith)) (all_of_each P queues (λ next within. each (suc next) (omega (arith, within))))

-- no letter is held where no batch is, closed or open
none_in : (queue : Queue) → queue.closed ≡ [] → queue.gathered ≡ [] → letters_in queue ≡ []
none_in queue closed none = rw (closed, none) refl

pub none_held : (queues : List Queue) → ((next : ℕ) → next < length queues → NoneClosed queues next) → ((next : ℕ) → next < length queues → NoneOpen queues next) → queued queues ≡ []
none_held [] closed none = refl
none_held (queue ∷ queues) closed none =
    ap (λ xs. xs ++ queued queues) (none_in queue (closed zero (omega arith)) (none zero (omega arith)))
    ∙ none_held queues (λ next within. closed (suc next) (omega (arith, within))) (λ next within. none (suc next) (omega (arith, within)))
