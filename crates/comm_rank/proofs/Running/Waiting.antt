-- The letters that wait, after the first ones passed.
use Rattle.std.proofs.Common.{◌≡◌, ℕ, ◌+◌, ◌<◌, ◌≤◌, ◌&&◌, nat_eq, List, [], ◌∷◌, ◌++◌, Some, length, slice_get, sym, ap, ◌∙◌, subst, arith, append_assoc, length-append}
use Rattle.std.specs.Bool.{IsTrue}
use Rattle.std.specs.List.{AllByRecursion}
use Rattle.std.proofs.lemmas.List.Elements.{filter-append}
use Rattle.msg_codec.specs.declared.letter.Letter.{Letter}
use Rattle.comm_rank.specs.Fold.{Applies}
use Rattle.world_core.specs.Limits.{most_arrived}
use Rattle.world_core.specs.Pairs.{for_rank, is_data}
use Rattle.comm_rank.specs.Rank.{IsSameRank, Rank}
use Rattle.ygm_route.specs.Layout.{Shape}
use Rattle.list_facts.proofs.Elements.{all_second}
use Rattle.comm_rank.specs.Running.{HasPassed, IsFirstFor, IsTaken}
use Rattle.comm_rank.proofs.Running.Passed.{one_runs}

-- the letters after the first of those that waited
pub waits_one_less : (waiting letters rest now : List Letter) (l : Letter) → waiting ≡ letters ++ rest → rest ≡ l ∷ now → waiting ≡ (letters ++ l ∷ []) ++ now
waits_one_less waiting letters rest now l e f = e ∙ ap (λ w. letters ++ w) f ∙ sym (append_assoc letters (l ∷ []) now)

module _ {C : Type 0} (old mid : Rank C) (same : IsSameRank old mid) (letters : List Letter) (waits : old.waiting ≡ letters ++ mid.waiting) where
  pub rest_taken : AllByRecursion (IsTaken old.layout.ranks old.here) old.waiting → AllByRecursion (IsTaken mid.layout.ranks mid.here) mid.waiting
  rest_taken all =
      let rest : AllByRecursion (IsTaken old.layout.ranks old.here) mid.waiting = all_second _ letters mid.waiting (subst (AllByRecursion (IsTaken old.layout.ranks old.here)) waits all) in
      subst (λ h. AllByRecursion (IsTaken mid.layout.ranks h) mid.waiting) (sym same.here) (subst (λ (s : Shape). AllByRecursion (IsTaken s.ranks old.here) mid.waiting) (sym same.layout) rest)

  pub rest_few : (apply : Applies C) → HasPassed apply old mid letters → old.run_count + length (for_rank old.here old.waiting) ≤ most_arrived → mid.run_count + length (for_rank mid.here mid.waiting) ≤ most_arrived
  rest_few apply passed few =
      let all : for_rank old.here old.waiting ≡ for_rank old.here letters ++ for_rank mid.here mid.waiting =
      ap (for_rank old.here) waits ∙ filter-append _ letters mid.waiting ∙ ap (λ h. for_rank old.here letters ++ for_rank h mid.waiting) (sym same.here) in
      omega (arith, few, passed.run_count, ap length all, length-append (for_rank old.here letters) (for_rank mid.here mid.waiting))

-- the letter that waits first
first_taken : (ranks here : ℕ) (waiting : List Letter) (l : Letter) → slice_get waiting 0 ≡ Some l → AllByRecursion (IsTaken ranks here) waiting → IsTaken ranks here l
first_taken ranks here [] l first all = absurd cc
first_taken ranks here (x ∷ waiting) l first all = let e : x ≡ l = cc in subst (IsTaken ranks here) e all.0

first_for : (ranks here : ℕ) (waiting : List Letter) (l : Letter) → slice_get waiting 0 ≡ Some l → AllByRecursion (IsTaken ranks here) waiting → l.to ≡ here → IsFirstFor here waiting
first_for ranks here [] l first all mine = absurd cc
first_for ranks here (x ∷ waiting) l first all mine = let e : x ≡ l = cc in (all.0.tag, ap (λ (y : Letter). y.to) e ∙ mine)

one_fewer : (count here : ℕ) (waiting : List Letter) → IsFirstFor here waiting → count + length (for_rank here waiting) ≤ most_arrived → count < most_arrived
one_fewer count here [] mine few = absurd mine
one_fewer count here (x ∷ waiting) mine few =
    let one : for_rank here (x ∷ waiting) ≡ x ∷ for_rank here waiting = filter-append (λ y. is_data y && nat_eq y.to here) (x ∷ []) waiting ∙ ap (λ xs. xs ++ for_rank here waiting) (one_runs here x mine.0 mine.1) in
    omega (arith, few, ap length one)

pub first_mine : (here : ℕ) (waiting : List Letter) (l : Letter) → slice_get waiting 0 ≡ Some l → IsFirstFor here waiting → IsTrue (is_data l) × (l.to ≡ here)
first_mine here [] l first mine = absurd mine
first_mine here (x ∷ waiting) l first mine = let e : x ≡ l = cc in (subst (λ (y : Letter). IsTrue (is_data y)) e mine.0, sym (ap (λ (y : Letter). y.to) e) ∙ mine.1)

-- the letter that waits first, of a rank as it is seen
pub first_is_taken : {C : Type 0} (was old : Rank C) (l : Letter) → was ≡ old → slice_get was.waiting 0 ≡ Some l → AllByRecursion (IsTaken old.layout.ranks old.here) old.waiting → IsTaken was.layout.ranks was.here l
first_is_taken {C} was old l e first all =
    first_taken was.layout.ranks was.here was.waiting l first (subst (λ (me : Rank C). AllByRecursion (IsTaken me.layout.ranks me.here) me.waiting) (sym e) all)

pub first_few : {C : Type 0} (was old : Rank C) (l : Letter) → was ≡ old → slice_get was.waiting 0 ≡ Some l → AllByRecursion (IsTaken old.layout.ranks old.here) old.waiting → l.to ≡ was.here →
    old.run_count + length (for_rank old.here old.waiting) ≤ most_arrived → old.run_count < most_arrived
first_few {C} was old l e first all mine few =
    let taken = subst (λ (me : Rank C). AllByRecursion (IsTaken me.layout.ranks me.here) me.waiting) (sym e) all in
    let bound = subst (λ (me : Rank C). me.run_count + length (for_rank me.here me.waiting) ≤ most_arrived) (sym e) few in
    subst (λ (me : Rank C). me.run_count < most_arrived) e (one_fewer was.run_count was.here was.waiting (first_for was.layout.ranks was.here was.waiting l first taken mine) bound)
