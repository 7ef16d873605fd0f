-- The letters that arrived at a rank.
use Rattle.std.proofs.Common.{◌≡◌, ℕ, ◌<◌, Bool, true, false, ◌&&◌, cond, eqb, List, [], ◌∷◌, drop, take, refl, subst}
use Rattle.std.specs.List.{AllByRecursion}
use Rattle.std.proofs.lemmas.Bool.{and_from, eq-eqb}
use Rattle.list_facts.proofs.Elements.{all_first, all_second}
use Rattle.list_facts.proofs.Tests.{and_first, and_second}
use Rattle.msg_codec.specs.declared.letter.Letter.{Letter}
use Rattle.world_core.specs.declared.entry.Entry.{Entry}
use Rattle.world_core.specs.Pairs.{arrived, for_rank, is_data, is_of_pair, of_pair}
use Rattle.term_barrier.specs.CompleteRun.{IsArrival}
use Rattle.term_barrier.proofs.Cuts.Joined.{arrived_cut}

-- those for a rank, from ranks of the world
pub are_arrivals : (ranks here : ℕ) (letters : List Letter) → AllByRecursion (λ l. l.from < ranks) (for_rank here letters) →
    AllByRecursion (IsArrival ranks here) (for_rank here letters)
are_arrivals ranks here [] senders = tt
are_arrivals ranks here (l ∷ letters) senders = by_test (is_data l && eqb l.to here) refl senders (are_arrivals ranks here letters)
  where
    pair : (is_data l && eqb l.to here) ≡ true → is_of_pair l.from here l ≡ true
    pair passes =
        and_from _ _ (and_from _ _ (and_first (is_data l) (eqb l.to here) passes) (eq-eqb l.from l.from refl))
        (and_second (is_data l) (eqb l.to here) passes)

    by_test : (b : Bool) → (is_data l && eqb l.to here) ≡ b →
        AllByRecursion (λ l. l.from < ranks) (cond b (l ∷ for_rank here letters) (for_rank here letters)) →
        (AllByRecursion (λ l. l.from < ranks) (for_rank here letters) → AllByRecursion (IsArrival ranks here) (for_rank here letters)) →
        AllByRecursion (IsArrival ranks here) (cond b (l ∷ for_rank here letters) (for_rank here letters))
    by_test true passes all later = (record { sender = all.0; pair = pair passes }, later all.1)
    by_test false passes all later = later all

module _ (P : Letter → Type 0) (here place : ℕ) (log : List Entry) (all : AllByRecursion P (arrived here log)) where
  pub arrived_before : AllByRecursion P (arrived here (take place log))
  arrived_before =
      all_first P (arrived here (take place log)) (arrived here (drop place log)) (subst (AllByRecursion P) (arrived_cut here place log) all)

  pub arrived_after : AllByRecursion P (arrived here (drop place log))
  arrived_after =
      all_second P (arrived here (take place log)) (arrived here (drop place log)) (subst (AllByRecursion P) (arrived_cut here place log) all)

-- what holds of the letters of each sender holds of all
pub of_each_sender : (P : Letter → Type 0) (ranks here : ℕ) (letters : List Letter) → AllByRecursion (IsArrival ranks here) letters →
    ((from : ℕ) → from < ranks → AllByRecursion P (of_pair from here letters)) → AllByRecursion P letters
of_each_sender P ranks here [] arrivals each = tt
of_each_sender P ranks here (l ∷ letters) arrivals each = (
  kept (is_of_pair l.from here l) (of_pair l.from here letters) arrivals.0.pair (each l.from arrivals.0.sender),
  of_each_sender P ranks here letters arrivals.1 (λ from lt. others (is_of_pair from here l) (of_pair from here letters) (each from lt)),
)
  where
    kept : (b : Bool) (ls : List Letter) → b ≡ true → AllByRecursion P (cond b (l ∷ ls) ls) → P l
    kept true ls h all = all.0
    kept false ls h all = absurd cc

    others : (b : Bool) (ls : List Letter) → AllByRecursion P (cond b (l ∷ ls) ls) → AllByRecursion P ls
    others true ls all = all.1
    others false ls all = all
