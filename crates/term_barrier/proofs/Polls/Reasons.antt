-- Why a poll waits.
use Rattle.std.proofs.Common.{◌≡◌, ℕ, pred, ◌<◌, inl, inr, true, is_some, Option, None, Some, [], ◌++◌, append-nil, length, filter, refl, sym, ap, ◌∙◌, subst, arith}
use Rattle.std.proofs.lemmas.Bool.{cases_lt, false≢true}
use Rattle.std.proofs.lemmas.List.{nil_from_length}
use Rattle.std.proofs.lemmas.Option.{none-some, slice_get-get_or, slice_get_past}
use Rattle.world_core.specs.Counts.{is_total_to, total_taken}
use Rattle.world_core.specs.Local.{Local}
use Rattle.world_core.specs.Log.{batches_taken}
use Rattle.world_core.specs.Modest.{IsModest}
use Rattle.world_core.specs.Post.{PostState, SameFulls}
use Rattle.world_core.specs.Rising.{Rose}
use Rattle.comm_rank.specs.declared.turn.Turn.{Turn}
use Rattle.comm_rank.specs.Fold.{Applies}
use Rattle.comm_rank.specs.Held.{NoneOpen}
use Rattle.comm_rank.specs.Rank.{IsIdle, IsSameRank, Rank, held_letters, local_of}
use Rattle.comm_rank.specs.Turns.{FirstFull, HasEnded, IsFirstFull, PutsKeep}
use Rattle.comm_rank.proofs.Agrees.AfterPuts.{same_batches_taken}
use Rattle.term_barrier.specs.declared.polled.Waiting.{Waiting}
use Rattle.term_barrier.specs.declared.polled.Waiting.TheVariants.{Worked, Link, Count, Total, Spent}
use Rattle.term_barrier.specs.Barriers.{BarrierAgrees, BarrierState, InRange, IsMissing, control_letters}
use Rattle.term_barrier.specs.Polls.{FoundFull, HasPutDue, IsOtherReason, IsReason, Stands, either}
use Rattle.term_barrier.proofs.Barriers.Knows.{known_at, no_letter, total_at}
use Rattle.term_barrier.proofs.Barriers.Rounds.{known_is, not_taken, taken}

-- ---- what a barrier knows of Totals that its rank took

module _ (barrier : BarrierState) (me : Local) (modest : IsModest me) (agrees : BarrierAgrees barrier [] me) where
  all_known : barrier.known ≡ length (filter (is_total_to me.here) (control_letters me.log))
  all_known = known_is barrier me modest agrees ∙ known_at me modest

  no_total : total_taken me.here barrier.known me.log ≡ None
  no_total = total_at me modest barrier.known ∙ slice_get_past (filter (is_total_to me.here) (control_letters me.log)) barrier.known (omega (arith, all_known))

  total_there : (q : ℕ) → q < barrier.known → is_some (total_taken me.here q me.log) ≡ true
  total_there q before =
      ap is_some (total_at me modest q ∙ slice_get-get_or (filter (is_total_to me.here) (control_letters me.log)) q no_letter (omega (arith, before, all_known)))

-- ---- a turn that took no batch, and puts after it

module _ {C : Type 0} (apply : Applies C) (start : C → C) (one mid : Rank C) (before looked after : PostState) (turn : Turn)
    (same : IsSameRank one mid) (ended : HasEnded apply start one mid before looked turn) (gathered : (to : ℕ) → to < one.layout.ranks → NoneOpen one.held to) (keeps : PutsKeep mid.here looked after) where
  -- it found nothing at any link
  missed : turn.took ≡ 0 → (from : ℕ) → from < one.layout.ranks → Rose (before.misses from) (after.misses from)
  missed took from within = elim (ended.takes_from_each from within) [
    | inl some ↦
        let none : ended.turned.taken ≡ [] = nil_from_length ended.turned.taken (omega (arith, took, ended.turned.took)) in
        let log : looked.log one.here ≡ before.log one.here ++ ended.turned.placed =
        ended.turned.gained.log ∙ ap (λ taken. before.log one.here ++ taken ++ ended.turned.placed) none
        ∙ ap (λ entries. entries ++ ended.turned.placed) (append-nil (before.log one.here)) in
        let still : batches_taken from (looked.log one.here) ≡ batches_taken from (before.log one.here) =
        ap (batches_taken from) log ∙ same_batches_taken from ended.turned.placed (before.log one.here) ended.turned.gained.puts in
        absurd (omega (arith, some, ap length still))
    | inr none ↦ subst (Rose (before.misses from)) (sym (keeps.misses from)) none
  ]

  first_full : (to : ℕ) → turn.full ≡ Some to → IsFirstFull one.layout.ranks to mid.held before looked
  first_full to is = subst (FirstFull one.layout.ranks mid.held before looked) is ended.full

  full_link : (to : ℕ) → turn.full ≡ Some to → Rose (before.fulls to) (after.fulls to)
  full_link to is = omega (arith, (first_full to is).rose, keeps.counts.fulls to)

  no_full_link : turn.full ≡ None → SameFulls before looked
  no_full_link is = subst (FirstFull one.layout.ranks mid.held before looked) is ended.full

  -- ---- the reason

  module _ (barrier : BarrierState) (me : Rank C) (full : Option ℕ) (why : Waiting) (range : InRange barrier) (all_handed : me.controls ≡ [])
      (mid_is : me ≡ record mid { controls = [] }) (stands : Stands apply start barrier me after) (due : HasPutDue (held_letters me) barrier full looked after) where
    abbrev here : Local
    here = local_of me (after.log me.here)

    modest : IsModest here
    modest = stands.belongs.agrees.modest

    agrees : BarrierAgrees barrier [] here
    agrees = subst (λ kept. BarrierAgrees barrier kept here) all_handed stands.agrees

    ranks : barrier.layout.ranks ≡ me.layout.ranks
    ranks = ap (λ layout. layout.ranks) agrees.layout

    all_ranks : one.layout.ranks ≡ me.layout.ranks
    all_ranks = ap (λ layout. layout.ranks) (sym same.layout) ∙ sym (ap (λ (r : Rank C). r.layout.ranks) mid_is)

    still : turn.full ≡ None → full ≡ None → SameFulls before after
    still first later =
        let none : SameFulls looked after = subst (λ f. FoundFull barrier.layout.ranks f looked after) later due.found in
        λ rank. none rank ∙ no_full_link first rank

    idle : turn.took ≡ 0 → turn.full ≡ None → IsIdle me
    idle took none = subst (λ (r : Rank C). IsIdle r) (sym mid_is) (ended.none_held none took gathered, ended.turned.nothing_waits)

    why_other : turn.took ≡ 0 → turn.full ≡ None → full ≡ None → (w : Waiting) → IsOtherReason barrier w → IsReason barrier here before after turn w
    why_other took first later (Worked n) other = absurd other
    why_other took first later (Link to) other = absurd other
    why_other took first later (Count rank round) other =
        let missing : IsMissing barrier rank = other.3 in
        let within : rank < me.layout.ranks = omega (arith, missing.within, ranks) in (
          (took, still first later),
          record {
            at_first = sym agrees.here ∙ other.2;
            within = within;
            counted = omega (arith, other.0, other.1, agrees.its_rounds.counts_are);
            found_none = missed took rank (omega (arith, within, all_ranks));
            not_taken = not_taken barrier here modest agrees rank within round (omega (arith, missing.not_heard, other.0));
            lower_taken = λ lower lt. taken barrier here modest agrees lower (omega (arith, lt, within)) round (omega (arith, missing.lower_heard lower lt, other.0));
          },
        )
    why_other took first later (Total round) other =
        let past : barrier.here ≡ 0 → barrier.known < barrier.over = λ at_first.
        elim (other.2 at_first) [
          | inl more ↦ more
          | inr all ↦ elim (due.totals at_first all other.1) [ inl more ↦ more | inr some ↦ absurd (false≢true (sym (ap is_some later) ∙ some)) ]
        ] in (
          (took, still first later),
          record {
            counted = omega (arith, other.0, other.1, agrees.its_rounds.counts_are);
            found_none = missed took 0 (omega (arith, range.within, ranks, all_ranks));
            not_taken = ap (λ q. total_taken me.here q (after.log me.here)) other.0 ∙ no_total barrier here modest agrees;
            all_put = λ at_first to within.
                let put = agrees.its_rounds.totals_are to (omega (arith, within, ranks)) in
                omega (arith, put, past (agrees.here ∙ at_first), other.0);
          },
        )
    why_other took first later (Spent round) other =
        let spent : barrier.counted ≡ barrier.rounds = elim (cases_lt barrier.counted barrier.rounds) [
          | inl fewer ↦ elim (due.count (idle took first).0 fewer) [
            | inl more ↦ absurd (omega (arith, more, other.1))
            | inr some ↦ absurd (none-some 0 (sym later ∙ some))
          ]
          | inr all ↦ omega (arith, all, range.counted_few)
        ] in (
          (took, still first later),
          other.0,
          record {
            all_put = omega (arith, spent, other.0, agrees.its_rounds.counts_are);
            last_taken = total_there barrier here modest agrees (pred round) (omega (arith, spent, other.0, other.1, range.some));
          },
        )

    pub reason : (0 < turn.took → why ≡ Worked turn.took) → ((to : ℕ) → turn.took ≡ 0 → either turn.full full ≡ Some to → why ≡ Link to) →
        (turn.took ≡ 0 → either turn.full full ≡ None → IsOtherReason barrier why) → IsReason barrier here before after turn why
    reason worked link other = elim (cases_lt 0 turn.took) [
      | inl some ↦ subst (IsReason barrier here before after turn) (sym (worked some)) (refl, some)
      | inr none ↦ by_full (omega (arith, none)) turn.full full refl refl
    ]
      where
        by_full : turn.took ≡ 0 → (first later : Option ℕ) → turn.full ≡ first → full ≡ later → IsReason barrier here before after turn why
        by_full took (Some to) later is is' =
            let full_there : either turn.full full ≡ Some to = ap (λ f. either f full) is in
            let within : to < me.layout.ranks = omega (arith, (first_full to is).within, all_ranks) in
            subst (IsReason barrier here before after turn) (sym (link to took full_there)) (took, (within, full_link to is))
        by_full took None (Some to) is is' =
            let full_there : either turn.full full ≡ Some to = ap (λ f. either f full) is ∙ is' in
            let found : FoundFull barrier.layout.ranks (Some to) looked after = subst (λ f. FoundFull barrier.layout.ranks f looked after) is' due.found in
            let within : to < me.layout.ranks = omega (arith, found.0, ranks) in
            subst (IsReason barrier here before after turn) (sym (link to took full_there))
            (took, (within, subst (λ n. Rose n (after.fulls to)) (no_full_link is to) found.1))
        by_full took None None is is' = why_other took is is' why (other took (ap (λ f. either f full) is ∙ is'))
