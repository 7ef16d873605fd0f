-- Where the letters for one destination are held, and in which order.
use Rattle.std.proofs.Common.{◌≡◌, ◌≢◌, ℕ, zero, suc, ◌<◌, Bool, false, List, [], ◌∷◌, ◌++◌, length, set, refl, sym, ap, ◌∙◌, inl, inr, filter, append-nil, arith}
use Rattle.std.proofs.Math.ListN.{get_or-eq_default}
use Rattle.std.proofs.lemmas.Bool.{cases_eq, cases_lt, false_from_ne_true}
use Rattle.std.proofs.lemmas.List.{get_or-set_other, get_or-set_same}
use Rattle.std.proofs.lemmas.List.Elements.{filter-append}
use Rattle.msg_codec.specs.declared.letter.Letter.{Letter}
use Rattle.list_facts.proofs.Elements.{all_weaker}
use Rattle.list_facts.proofs.Filters.{filter_none}
use Rattle.ygm_route.specs.Layout.{AreRanks}
use Rattle.ygm_route.proofs.Hop.Within.{hop_within}
use Rattle.send_buffers.specs.Buffers.{AreRouted, Buffered, IsRouted, Queue, added, empty_queue, hop_to, letters_in, queue_at, queued}
use Rattle.send_buffers.specs.Calls.{HandsOut, with_letter}
use Rattle.send_buffers.specs.Laws.{PassesOnlyTo}
use Rattle.send_buffers.proofs.Queued.Steps.{out_within}
use Rattle.send_buffers.proofs.Queued.Queues.{all_letters, letters-added, letters-given_back, none_joined}

-- ---- letters that pass are in one queue

module _ (test : Letter → Bool) where
  abbrev kept_in : List Queue → ℕ → List Letter
  kept_in queues next = filter test (letters_in (queue_at queues next))

  none_in : (queues : List Queue) → ((next : ℕ) → kept_in queues next ≡ []) → filter test (queued queues) ≡ []
  none_in [] none = refl
  none_in (queue ∷ queues) none =
      filter-append test (letters_in queue) (queued queues) ∙ ap (λ xs. xs ++ filter test (queued queues)) (none 0) ∙ none_in queues (λ next. none (suc next))

  only_in : (queues : List Queue) (one : ℕ) → ((next : ℕ) → next ≢ one → kept_in queues next ≡ []) → filter test (queued queues) ≡ kept_in queues one
  only_in [] one none = refl
  only_in (queue ∷ queues) zero none =
      filter-append test (letters_in queue) (queued queues)
      ∙ ap (λ xs. filter test (letters_in queue) ++ xs) (none_in queues (λ next. none (suc next) (λ e. omega (arith, e)))) ∙ append-nil _
  only_in (queue ∷ queues) (suc one) none =
      filter-append test (letters_in queue) (queued queues) ∙ ap (λ xs. xs ++ filter test (queued queues)) (none 0 (λ e. omega (arith, e)))
      ∙ only_in queues one (λ next other. none (suc next) (λ e. other (omega (arith, e))))

-- ---- of one destination

module _ (held : Buffered) (to : ℕ) (test : Letter → Bool) (routed : AreRouted held) (only : PassesOnlyTo to test) where
  abbrev hop : ℕ
  hop = hop_to held to

  fails : (next : ℕ) (l : Letter) → next ≢ hop → IsRouted held next l → test l ≡ false
  fails next l other is = false_from_ne_true _ (λ passes. other (sym is.next_hop ∙ ap (hop_to held) (only l passes)))

  none_other : (next : ℕ) → next ≢ hop → kept_in test held.queues next ≡ []
  none_other next other = elim (cases_lt next held.layout.ranks) [
    | inl within ↦
        filter_none test _ (all_weaker (IsRouted held next) (λ l. test l ≡ false) _ (λ l is. fails next l other is) (all_letters held next _ (routed.each next within)))
    | inr past ↦
        let none : queue_at held.queues next ≡ empty_queue = get_or-eq_default held.queues empty_queue (omega (arith, past, routed.all)) in
        ap (λ q. filter test (letters_in q)) none
  ]

  pub in_one_queue : filter test (queued held.queues) ≡ filter test (letters_in (queue_at held.queues (hop_to held to)))
  in_one_queue = only_in test held.queues hop none_other

  -- ---- where one queue changes

  -- the changed queue is that of the destination, or has no letters that pass
  changed : (queues : List Queue) (next : ℕ) (now : Queue) → queues ≡ set held.queues next now → (next ≢ hop → filter test (letters_in now) ≡ []) →
      next < length held.queues → filter test (queued queues) ≡ kept_in test queues hop
  changed queues next now is none within = only_in test queues hop (λ other apart. elim (cases_eq other next) [
    | inl same ↦
        let read : queue_at queues other ≡ now = ap (λ qs. queue_at qs other) is ∙ ap (λ k. queue_at (set held.queues next now) k) same ∙ get_or-set_same held.queues next now empty_queue within in
        ap (λ q. filter test (letters_in q)) read ∙ none (λ e. apart (same ∙ e))
    | inr differs ↦
        let read : queue_at queues other ≡ queue_at held.queues other = ap (λ qs. queue_at qs other) is ∙ get_or-set_other held.queues next other now empty_queue differs in
        ap (λ q. filter test (letters_in q)) read ∙ none_other other apart
  ])

  -- another queue is unchanged
  unchanged : (queues : List Queue) (next : ℕ) (now : Queue) → queues ≡ set held.queues next now → hop ≢ next → kept_in test queues hop ≡ filter test (queued held.queues)
  unchanged queues next now is differs =
      ap (λ qs. kept_in test qs hop) is ∙ ap (λ q. filter test (letters_in q)) (get_or-set_other held.queues next hop now empty_queue differs) ∙ sym in_one_queue

  no_lone : (l : Letter) → hop ≢ hop_to held l.to → filter test (l ∷ []) ≡ []
  no_lone l differs = filter_none test (l ∷ []) (false_from_ne_true _ (λ passes. differs (ap (hop_to held) (sym (only l passes)))), tt)

  -- an added letter is the last
  pub added-order : (l : Letter) (queues : List Queue) → AreRanks held.layout held.here l.to → queues ≡ with_letter held l →
      filter test (queued queues) ≡ filter test (queued held.queues) ++ filter test (l ∷ [])
  added-order l queues ranks is =
      let next = hop_to held l.to in
      let was = queue_at held.queues next in
      let now = added held.limit was l in
      let within : next < length held.queues = omega (arith, routed.all, hop_within held.layout held.scheme held.here l.to ranks) in
      let letters : filter test (letters_in now) ≡ filter test (letters_in was) ++ filter test (l ∷ []) =
      ap (filter test) (letters-added held.limit was l) ∙ filter-append test (letters_in was) (l ∷ []) in
      let none : next ≢ hop → filter test (letters_in now) ≡ [] =
      λ differs. letters ∙ ap (λ xs. xs ++ filter test (l ∷ [])) (none_other next differs) ∙ no_lone l (λ e. differs (sym e)) in
      changed queues next now is none within
      ∙ (elim (cases_eq hop next) [
        | inl same ↦
            ap (kept_in test queues) same ∙ ap (λ qs. kept_in test qs next) is
            ∙ ap (λ q. filter test (letters_in q)) (get_or-set_same held.queues next now empty_queue within) ∙ letters
            ∙ ap (λ xs. xs ++ filter test (l ∷ [])) (ap (kept_in test held.queues) (sym same) ∙ sym in_one_queue)
        | inr differs ↦
            unchanged queues next now is differs ∙ sym (append-nil _) ∙ ap (λ xs. filter test (queued held.queues) ++ xs) (sym (no_lone l differs))
      ])

module _ (old new : Buffered) (to : ℕ) (test : Letter → Bool) (routed : AreRouted old) (only : PassesOnlyTo to test) where
  -- a batch that is handed out came first
  pub out-order : (next : ℕ) (batch : List Letter) → HandsOut old new next batch →
      filter test (queued old.queues) ≡ filter test batch ++ filter test (queued new.queues)
  out-order next batch out =
      let here = hop_to old to in
      let now = queue_at new.queues next in
      let letters : kept_in test old.queues next ≡ filter test batch ++ filter test (letters_in now) =
      ap (λ q. filter test (letters_in q)) out.oldest ∙ ap (filter test) (letters-given_back now batch) ∙ filter-append test batch (letters_in now) in
      let none : next ≢ here → filter test batch ++ filter test (letters_in now) ≡ [] = λ differs. sym letters ∙ none_other old to test routed only next differs in
      let one : filter test (queued new.queues) ≡ kept_in test new.queues here =
      changed old to test routed only new.queues next now out.others (λ differs. (none_joined (filter test batch) _ (none differs)).1) (out_within old new next batch out) in
      (elim (cases_eq here next) [
        | inl same ↦
            in_one_queue old to test routed only ∙ ap (kept_in test old.queues) same ∙ letters
            ∙ ap (λ xs. filter test batch ++ xs) (ap (kept_in test new.queues) (sym same) ∙ sym one)
        | inr differs ↦
            sym (one ∙ unchanged old to test routed only new.queues next now out.others differs)
            ∙ ap (λ xs. xs ++ filter test (queued new.queues)) (sym ((none_joined (filter test batch) _ (none (λ e. differs (sym e)))).0))
      ])
