-- Weights of the letters that arrived at a rank, sender by sender.
use Rattle.std.proofs.Common.{◌≡◌, ℕ, ◌+◌, Bool, true, false, ◌&&◌, cond, eqb, List, [], ◌∷◌, sum_by, refl, sym, ap, ◌∙◌, arith}
use Rattle.std.specs.List.{AllByRecursion}
use Rattle.std.proofs.lemmas.List.Sums.{sum_by-cons}
use Rattle.list_facts.specs.Sums.{sum_upto}
use Rattle.list_facts.proofs.Sums.{sum_upto-add, sum_upto-same, sum_upto-zero}
use Rattle.list_facts.proofs.Tests.{and_second}
use Rattle.msg_codec.specs.declared.letter.Letter.{Letter}
use Rattle.world_core.specs.Pairs.{is_data, is_of_pair, of_pair}
use Rattle.world_core.proofs.Pairs.OfPair.{pair_data}
use Rattle.term_barrier.specs.CompleteRun.{IsArrival}
use Rattle.term_barrier.proofs.Sums.{at_place, sum_upto-at_place}

and_true : (b : Bool) → (b && true) ≡ b
and_true true = refl
and_true false = refl

-- a letter that arrived is of a pair just where it is from that sender
by_its_sender : (from here : ℕ) (l : Letter) → is_of_pair l.from here l ≡ true → is_of_pair from here l ≡ eqb l.from from
by_its_sender from here l pair =
    let is : is_data l ≡ true = pair_data l.from here l pair in
    let to : eqb l.to here ≡ true = and_second (is_data l && eqb l.from l.from) (eqb l.to here) pair in
    ap (λ b. (b && eqb l.from from) && eqb l.to here) is
    ∙ ap (λ b. eqb l.from from && b) to
    ∙ and_true (eqb l.from from)

module _ (weight : Letter → ℕ) (ranks here : ℕ) where
  abbrev weight_from : List Letter → ℕ → ℕ
  weight_from letters from = sum_by weight (of_pair from here letters)

  one_more : (b : Bool) (l : Letter) (letters : List Letter) →
      sum_by weight (cond b (l ∷ letters) letters) ≡ cond b (weight l) 0 + sum_by weight letters
  one_more true l letters = sum_by-cons weight l letters
  one_more false l letters = omega arith

  -- a letter weighs where it is from, and nowhere else
  from_one_more : (l : Letter) (letters : List Letter) → is_of_pair l.from here l ≡ true → (from : ℕ) →
      weight_from (l ∷ letters) from ≡ at_place l.from (weight l) from + weight_from letters from
  from_one_more l letters pair from =
      one_more (is_of_pair from here l) l (of_pair from here letters)
      ∙ ap (λ b. cond b (weight l) 0 + weight_from letters from) (by_its_sender from here l pair)

  -- the weights of what arrived are those of each sender, added up
  pub weight_by_sender : (letters : List Letter) → AllByRecursion (IsArrival ranks here) letters →
      sum_by weight letters ≡ sum_upto (λ from. sum_by weight (of_pair from here letters)) ranks
  weight_by_sender [] all = sym (sum_upto-zero ranks)
  weight_by_sender (l ∷ letters) all =
      let own : ℕ → ℕ = at_place l.from (weight l) in
      omega (
        arith,
        sum_by-cons weight l letters,
        weight_by_sender letters all.1,
        sum_upto-at_place l.from (weight l) ranks all.0.sender,
        sum_upto-add own (weight_from letters) ranks,
        sum_upto-same (weight_from (l ∷ letters)) (λ from. own from + weight_from letters from) ranks
            (λ from lt. from_one_more l letters all.0.pair from),
      )
