-- Puts to one destination after another.
use Rattle.std.proofs.Common.{◌≡◌, ◌≢◌, ℕ, ◌+◌, ◌<◌, ◌≤◌, Bool, true, false, Option, Some, None, List, sym, ap, ◌∙◌, subst, inl, inr, arith}
use Rattle.std.specs.Option.{option_or}
use Rattle.std.proofs.lemmas.Bool.{cases_eq}
use Rattle.send_buffers.specs.Buffers.{Queue}
use Rattle.world_core.specs.Post.{SameFulls, PostState}
use Rattle.comm_rank.specs.Held.{NoneClosed}
use Rattle.comm_rank.specs.Moves.{OthersUnchanged, PutUntil}
use Rattle.comm_rank.specs.Turns.{FirstFull, NoneOrFull}

abbrev pub Below : ℕ → Option ℕ → Type 0
Below n None = Unit {0}
Below n (Some rank) = rank < n

-- a link was full, this one or one before
pub some_full : (was : Option ℕ) (to : ℕ) → option_or was (Some to) ≡ None → ⊥
some_full None to is = absurd cc
some_full (Some rank) to is = absurd cc

module _ (to : ℕ) (a b : List Queue) (old mid new : PostState) (others : OthersUnchanged to a b) (later : (d : ℕ) → to ≤ d → mid.fulls d ≡ old.fulls d) where
  -- the counts of the other ranks are unchanged
  pub other_fulls : (full : Bool) → PutUntil full to b mid new → (d : ℕ) → d ≢ to → new.fulls d ≡ mid.fulls d
  other_fulls true until d other = until.1.others d other
  other_fulls false until d other = until.1 d

  pub none_or_full_next : (full : Bool) → PutUntil full to b mid new → ((d : ℕ) → d < to → NoneOrFull d a old mid) → (d : ℕ) → d < to + 1 → NoneOrFull d b old new
  none_or_full_next full until done d lt = elim (cases_eq d to) [
    | inl e ↦ let P : ℕ → Type 0 = λ r. NoneOrFull r b old new in subst P (sym e) (at_last full until)
    | inr other ↦ elim (done d (omega arith)) [
      | inl none ↦ inl (ap (λ (queue : Queue). queue.closed) (others.others d other) ∙ none)
      | inr met ↦ inr (record {
        rose = (let e : new.fulls d ≡ mid.fulls d = other_fulls full until d other in omega (arith, met.rose, e));
        some = λ h. met.some (ap (λ (queue : Queue). queue.closed) (sym (others.others d other)) ∙ h);
      })
    ]
  ]
    where
      at_last : (full : Bool) → PutUntil full to b mid new → NoneOrFull to b old new
      at_last true until = inr (record {
        rose = (let e : mid.fulls to ≡ old.fulls to = later to (omega arith) in omega (arith, until.0.rose, e));
        some = until.0.some;
      })
      at_last false until = inl until.0

  -- where no link was full so far, no closed batch is held for the ranks so far
  pub none_next : PutUntil false to b mid new → ((d : ℕ) → d < to → NoneClosed a d) → (d : ℕ) → d < to + 1 → NoneClosed b d
  none_next until none d lt = elim (cases_eq d to) [
    | inl e ↦ subst (NoneClosed b) (sym e) until.0
    | inr other ↦ ap (λ (queue : Queue). queue.closed) (others.others d other) ∙ none d (omega (arith, lt, other))
  ]

  pub later_next : (full : Bool) → PutUntil full to b mid new → (d : ℕ) → to + 1 ≤ d → new.fulls d ≡ old.fulls d
  later_next full until d le = other_fulls full until d (λ e. absurd (omega (arith, e))) ∙ later d (omega arith)

  module _ (ranks : ℕ) where
    -- the first full link stays the first
    pub first_stays : (full : Bool) (first : ℕ) → PutUntil full to b mid new → first < to → FirstFull ranks a old mid (Some first) → FirstFull ranks b old new (Some first)
    first_stays full first until lt h =
        let other : first ≢ to = (λ e. absurd (omega (arith, e))) in
        let e : new.fulls first ≡ mid.fulls first = other_fulls full until first other in
        record {
          within = h.within;
          rose = omega (arith, h.rose, e);
          some = λ none. h.some (ap (λ (queue : Queue). queue.closed) (sym (others.others first other)) ∙ none);
          lower = λ lower below. other_fulls full until lower (λ k. absurd (omega (arith, k))) ∙ h.lower lower below;
        }

    pub first_here : to < ranks → PutUntil true to b mid new → SameFulls old mid → FirstFull ranks b old new (Some to)
    first_here within until same =
        let e : mid.fulls to ≡ old.fulls to = same to in
        record {
          within = within;
          rose = omega (arith, until.0.rose, e);
          some = until.0.some;
          lower = λ lower below. other_fulls true until lower (λ k. absurd (omega (arith, k))) ∙ same lower;
        }

    pub none_stays : PutUntil false to b mid new → SameFulls old mid → FirstFull ranks b old new None
    none_stays until same d = until.1 d ∙ same d

    pub first_next_full : (was now : Option ℕ) → to < ranks → PutUntil true to b mid new → FirstFull ranks a old mid was → Below to was → now ≡ option_or was (Some to) → FirstFull ranks b old new now × Below (to + 1) now
    first_next_full None now within until first below is =
        let P : Option ℕ → Type 0 = λ o. FirstFull ranks b old new o × Below (to + 1) o in subst P (sym is) (first_here within until first, omega arith)
    first_next_full (Some rank) now within until first below is =
        let P : Option ℕ → Type 0 = λ o. FirstFull ranks b old new o × Below (to + 1) o in subst P (sym is) (first_stays true rank until below first, omega (arith, below))

    pub first_next : (was now : Option ℕ) → PutUntil false to b mid new → FirstFull ranks a old mid was → Below to was → now ≡ was → FirstFull ranks b old new now × Below (to + 1) now
    first_next None now until first below is =
        let P : Option ℕ → Type 0 = λ o. FirstFull ranks b old new o × Below (to + 1) o in subst P (sym is) (none_stays until first, tt)
    first_next (Some rank) now until first below is =
        let P : Option ℕ → Type 0 = λ o. FirstFull ranks b old new o × Below (to + 1) o in subst P (sym is) (first_stays false rank until below first, omega (arith, below))
