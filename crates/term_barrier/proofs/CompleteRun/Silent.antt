-- Complete runs of handlers that give no letters: own letters arrive, and no others.
use Rattle.std.proofs.Common.{◌≡◌, ℕ, ◌<◌, IsTrue, List, [], ◌∷◌, ◌++◌, sum_by, refl, sym, ap, subst, ◌∙◌}
use Rattle.std.specs.List.{AllByRecursion}
use Rattle.std.proofs.lemmas.List.Elements.{filter_passes, recursion_from_All}
use Rattle.list_facts.specs.Sums.{sum_upto}
use Rattle.list_facts.proofs.Sums.{sum_upto-same}
use Rattle.msg_codec.specs.declared.letter.Letter.{Letter}
use Rattle.world_core.specs.Pairs.{is_of_pair, of_pair}
use Rattle.comm_rank.specs.Fold.{Applies, handed_from}
use Rattle.term_barrier.specs.CompleteRun.{Arrivals, IsCompleteRun, OwnLetters}
use Rattle.term_barrier.specs.SilentRun.{IsSilent}
use Rattle.term_barrier.proofs.CompleteRun.Arrived.{of_each_sender}
use Rattle.term_barrier.proofs.CompleteRun.BySender.{weight_by_sender}
use Rattle.term_barrier.proofs.Merge.Joined.{merge_is_one, merge_same}

-- whatever letters run, a silent handler gives none
pub none_handed : {C : Type 0} (apply : Applies C) → IsSilent apply → (here ranks : ℕ) (contents : C) (letters : List Letter) →
    handed_from apply here ranks contents letters ≡ []
none_handed apply silent here ranks contents [] = refl
none_handed apply silent here ranks contents (l ∷ letters) =
    let next = (apply contents here ranks l).0 in
    ap (λ given. given ++ handed_from apply here ranks next letters) (silent contents here ranks l)
    ∙ none_handed apply silent here ranks next letters

module _ {C : Type 0} (apply : Applies C) (ranks phases : ℕ) (start : ℕ → C) (own : OwnLetters) (arrivals : Arrivals)
    (run : IsCompleteRun apply ranks phases start own arrivals) (silent : IsSilent apply) where
  pub arrived_is_own : (from to phase : ℕ) → from < ranks → to < ranks → phase < phases →
      of_pair from to (arrivals to phase) ≡ own from phase to
  arrived_is_own from to phase f t p =
      merge_is_one (own from phase to) (of_pair from to (arrivals to phase))
      (merge_same refl (ap (of_pair from to) (none_handed apply silent from ranks _ (arrivals from phase))) refl
      (run.merged from to phase f t p))

  pub own_of_pair : (from to phase : ℕ) → from < ranks → to < ranks → phase < phases →
      AllByRecursion (λ l. IsTrue (is_of_pair from to l)) (own from phase to)
  own_of_pair from to phase f t p =
      subst (AllByRecursion (λ l. IsTrue (is_of_pair from to l))) (arrived_is_own from to phase f t p)
      (recursion_from_All _ _ (filter_passes (is_of_pair from to) (arrivals to phase)))

  pub arrived_weight : (weight : Letter → ℕ) (to phase : ℕ) → to < ranks → phase < phases →
      sum_by weight (arrivals to phase) ≡ sum_upto (λ from. sum_by weight (own from phase to)) ranks
  arrived_weight weight to phase t p =
      weight_by_sender weight ranks to (arrivals to phase) (run.letters to phase t p)
      ∙ sum_upto-same (λ from. sum_by weight (of_pair from to (arrivals to phase))) (λ from. sum_by weight (own from phase to)) ranks
      (λ from f. ap (sum_by weight) (arrived_is_own from to phase f t p))

  -- what holds of each own letter holds of each that arrived
  pub arrived_each : (P : Letter → Type 0) (to phase : ℕ) → to < ranks → phase < phases →
      ((from : ℕ) → from < ranks → AllByRecursion P (own from phase to)) → AllByRecursion P (arrivals to phase)
  arrived_each P to phase t p each =
      of_each_sender P ranks to (arrivals to phase) (run.letters to phase t p)
      (λ from f. subst (AllByRecursion P) (sym (arrived_is_own from to phase f t p)) (each from f))
