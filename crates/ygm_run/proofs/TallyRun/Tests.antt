-- Tests of letters, as weights: letters that weigh the same as others pass a test where those do.
use Rattle.std.proofs.Common.{◌≡◌, ℕ, ◌<◌, Bool, true, false, cond, List, [], ◌∷◌, Option, Some, None, All, sum_by, refl, ap, ◌∙◌, arith, ltb, lt-ltb, ltb-true}
use Rattle.std.specs.Prelude.{IfSome, IsSomeAnd}
use Rattle.std.specs.List.{AllByRecursion}
use Rattle.std.proofs.lemmas.List.Sums.{sum_by-cons}
use Rattle.std.proofs.lemmas.List.Elements.{All-from_recursion, recursion_from_All}
use Rattle.list_facts.proofs.Elements.{all_weaker}
use Rattle.list_facts.proofs.Sums.{sum_upto-same, sum_upto-zero}
use Rattle.msg_codec.specs.declared.letter.Letter.{Letter}
use Rattle.counting_set.specs.Counting.{AddsNoZero, AddsSome, adds}
use Rattle.ygm_run.specs.TallyRun.{WeighTheSame}

abbrev one_if_false : Bool → ℕ
one_if_false b = cond b 0 1

-- 1 where the test fails
abbrev fails : (Letter → Bool) → Letter → ℕ
fails test l = one_if_false (test l)

abbrev Pass : (Letter → Bool) → List Letter → Type 0
Pass test ls = AllByRecursion (λ l. test l ≡ true) ls

none_fail : (test : Letter → Bool) (ls : List Letter) → Pass test ls → sum_by (fails test) ls ≡ 0
none_fail test [] h = refl
none_fail test (l ∷ ls) h =
    let passes : fails test l ≡ 0 = ap one_if_false h.0 in
    omega (arith, passes, none_fail test ls h.1, sum_by-cons (fails test) l ls)

passes_if : (b : Bool) → one_if_false b ≡ 0 → b ≡ true
passes_if true h = refl
passes_if false h = absurd (omega (arith, h))

all_pass : (test : Letter → Bool) (ls : List Letter) → sum_by (fails test) ls ≡ 0 → Pass test ls
all_pass test [] h = tt
all_pass test (l ∷ ls) h = (
  passes_if (test l) (omega (arith, h, sum_by-cons (fails test) l ls)),
  all_pass test ls (omega (arith, h, sum_by-cons (fails test) l ls)),
)

-- what each letter that is sent passes, each that arrives passes
arrivals_pass : (test : Letter → Bool) (ranks : ℕ) (own : ℕ → ℕ → List Letter) (arrivals : ℕ → List Letter) → WeighTheSame ranks own arrivals
    → (to : ℕ) → to < ranks → ((from : ℕ) → from < ranks → Pass test (own from to)) → Pass test (arrivals to)
arrivals_pass test ranks own arrivals weigh to t each =
    all_pass test (arrivals to)
    (weigh (fails test) to t
    ∙ sum_upto-same (λ from. sum_by (fails test) (own from to)) (λ from. 0) ranks (λ from f. none_fail test (own from to) (each from f))
    ∙ sum_upto-zero ranks)

-- ---- adds

abbrev some_in : Option (List ℕ × ℕ) → Bool
some_in None = false
some_in (Some one) = ltb 0 one.1

passes_if_some : (o : Option (List ℕ × ℕ)) → IsSomeAnd o (λ one. 0 < one.1) → some_in o ≡ true
passes_if_some None h = absurd h
passes_if_some (Some one) h = lt-ltb 0 one.1 h

no_zero_if_passes : (o : Option (List ℕ × ℕ)) → some_in o ≡ true → IfSome o (λ one. 0 < one.1)
no_zero_if_passes None h = tt
no_zero_if_passes (Some one) h = ltb-true 0 one.1 h

-- where each letter that is sent adds at least one, none that arrives adds 0
pub none_adds_zero : (ranks : ℕ) (own : ℕ → ℕ → List Letter) (arrivals : ℕ → List Letter) → WeighTheSame ranks own arrivals
    → (to : ℕ) → to < ranks → ((from : ℕ) → from < ranks → All AddsSome (own from to)) → All AddsNoZero (arrivals to)
none_adds_zero ranks own arrivals weigh to t each =
    let test : Letter → Bool = λ l. some_in (adds l) in
    let pass : Pass test (arrivals to) =
    arrivals_pass test ranks own arrivals weigh to t
    (λ from f. all_weaker AddsSome (λ l. test l ≡ true) (own from to) (λ l. passes_if_some (adds l)) (recursion_from_All AddsSome (own from to) (each from f))) in
    All-from_recursion AddsNoZero (arrivals to) (all_weaker (λ l. test l ≡ true) AddsNoZero (arrivals to) (λ l. no_zero_if_passes (adds l)) pass)
