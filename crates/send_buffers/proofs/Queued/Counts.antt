-- How many of the held letters pass a test.
use Rattle.std.proofs.Common.{◌≡◌, ℕ, zero, suc, ◌+◌, ◌<◌, Bool, List, [], ◌∷◌, ◌++◌, length, set, ap, ◌∙◌, filter, arith, length-append}
use Rattle.std.proofs.lemmas.List.Elements.{filter-append}
use Rattle.msg_codec.specs.declared.letter.Letter.{Letter}
use Rattle.ygm_route.specs.Layout.{AreRanks}
use Rattle.ygm_route.proofs.Hop.Within.{hop_within}
use Rattle.send_buffers.specs.Buffers.{AreRouted, Buffered, Queue, added, hop_to, letters_in, queue_at, queued}
use Rattle.send_buffers.specs.Calls.{HandsOut, with_letter}
use Rattle.send_buffers.proofs.Queued.Queues.{letters-added, letters-given_back}
use Rattle.send_buffers.proofs.Queued.Steps.{out_within}

module _ (test : Letter → Bool) where
  abbrev counted : List Letter → ℕ
  counted letters = length (filter test letters)

  counted-append : (xs ys : List Letter) → counted (xs ++ ys) ≡ counted xs + counted ys
  counted-append xs ys = ap length (filter-append test xs ys) ∙ length-append (filter test xs) (filter test ys)

  -- where one queue changes
  counted-set : (queues : List Queue) (next : ℕ) (now : Queue) → next < length queues →
      counted (queued (set queues next now)) + counted (letters_in (queue_at queues next)) ≡ counted (queued queues) + counted (letters_in now)
  counted-set [] next now within = absurd (omega (arith, within))
  counted-set (queue ∷ queues) zero now within =
      omega (arith, counted-append (letters_in queue) (queued queues), counted-append (letters_in now) (queued queues))
  counted-set (queue ∷ queues) (suc next) now within = omega (
    arith,
    counted-append (letters_in queue) (queued queues),
    counted-append (letters_in queue) (queued (set queues next now)),
    counted-set queues next now (omega (arith, within)),
  )

  -- a letter more
  pub added-count : (held : Buffered) (l : Letter) (queues : List Queue) → AreRouted held → AreRanks held.layout held.here l.to → queues ≡ with_letter held l →
      length (filter test (queued queues)) ≡ length (filter test (queued held.queues)) + length (filter test (l ∷ []))
  added-count held l queues routed ranks is =
      let next = hop_to held l.to in
      let was = queue_at held.queues next in
      let within : next < length held.queues = omega (arith, routed.all, hop_within held.layout held.scheme held.here l.to ranks) in
      omega (
        arith,
        ap (λ qs. counted (queued qs)) is,
        counted-set held.queues next (added held.limit was l) within,
        ap counted (letters-added held.limit was l),
        counted-append (letters_in was) (l ∷ []),
      )

  -- a batch less
  pub out-count : (old new : Buffered) (next : ℕ) (batch : List Letter) → HandsOut old new next batch →
      length (filter test (queued old.queues)) ≡ length (filter test batch) + length (filter test (queued new.queues))
  out-count old new next batch out =
      let now = queue_at new.queues next in
      omega (
        arith,
        ap (λ qs. counted (queued qs)) out.others,
        counted-set old.queues next now (out_within old new next batch out),
        ap (λ q. counted (letters_in q)) out.oldest,
        ap counted (letters-given_back now batch),
        counted-append batch (letters_in now),
      )
