-- The rounds of a barrier that a rank leaves: it counted in them since it left the barrier before.
use Rattle.std.proofs.Common.{◌≡◌, ℕ, zero, suc, ◌≤◌, ◌<◌, ◌&&◌, Bool, true, false, cond, nat_eq, nat_lt, eqb-true, ltb-true, is_some, Option, Some, None, take, List, [], ◌∷◌, ◌++◌, refl, ◌∙◌, le_trans, inl, inr, arith}
use Rattle.std.specs.List.{AllByRecursion, list_any}
use Rattle.std.proofs.lemmas.Bool.{cases_lt, false≢true, not-false}
use Rattle.list_facts.specs.Prefix.{IsPrefix}
use Rattle.list_facts.proofs.Elements.{find_found}
use Rattle.list_facts.proofs.Prefix.{prefix_take}
use Rattle.list_facts.proofs.Tests.{and_first, and_false_second, and_second, or_false_first, or_false_second}
use Rattle.msg_codec.specs.Control.{is_count, is_total, round_of}
use Rattle.msg_codec.specs.declared.letter.Letter.{Letter}
use Rattle.world_core.specs.declared.entry.Entry.{Entry}
use Rattle.world_core.specs.Counts.{counts, is_total_to, total_taken, totals}
use Rattle.world_core.specs.Local.{Local}
use Rattle.world_core.specs.Log.{batches_taken, letters_of}
use Rattle.world_core.specs.Modest.{IsModest, too_soon}
use Rattle.world_core.specs.Rounds.{Sums, barrier_start, ended_below, ends, ends_from, first_round, rounds_known, sums_told}
use Rattle.world_core.proofs.Counts.BeforeCount.{counts_of_prefix}
use Rattle.world_core.proofs.Rounds.AtRound.{ended_grows}
use Rattle.world_core.proofs.Rounds.BarrierStart.{first_within}
use Rattle.term_barrier.specs.Left.{HasLeft, barriers_left, gained}
use Rattle.term_barrier.proofs.Left.Grown.{sums_stay}
use Rattle.term_barrier.proofs.Left.Known.{took_total}
use Rattle.term_barrier.proofs.Left.SameSums.{ended_below-same, first_round-same}
use Rattle.term_barrier.proofs.Links.{each_batch, each_link}

-- ---- later rounds are in no earlier barrier

next_grows : (b : Bool) (q first : ℕ) → first ≤ q → first ≤ cond b (suc q) first
next_grows true q first le = omega (arith, le)
next_grows false q first le = omega arith

pub first_grows : (sums : ℕ → Sums) (q m : ℕ) → q ≤ m → first_round sums q ≤ first_round sums m
unfolding first_round
first_grows sums q zero le = let at : q ≡ 0 = omega (arith, le) in rw at (omega arith)
first_grows sums q (suc m) le = elim (cases_lt m q) [
  | inl less ↦ let at : q ≡ suc m = omega (arith, le, less) in rw at (omega arith)
  | inr within ↦
      le_trans (first_grows sums q m within)
      (next_grows (ends_from (first_round sums m) sums m) m (first_round sums m) (first_within sums m))
]

pub one_more : (sums : ℕ → Sums) (q : ℕ) → ends sums q ≡ true → ended_below sums (suc q) ≡ suc (ended_below sums q)
unfolding ended_below
one_more sums q e = rw e (omega arith)

-- a round that ends a barrier, as many having ended before as before another round, is after the first of that round's barrier
pub ends_later : (sums : ℕ → Sums) (known round : ℕ) → ends sums round ≡ true → ended_below sums round ≡ ended_below sums known →
    first_round sums known < round
ends_later sums known round ended number =
    let within : first_round sums round < round = ltb-true _ _ (and_first (nat_lt (first_round sums round) round) _ ended) in
    let later : known ≤ round = elim (cases_lt round known) [
      | inl before ↦ absurd (
          let grown = ended_grows sums (suc round) known (omega (arith, before)) in
          omega (arith, grown, one_more sums round ended, number))
      | inr past ↦ past
    ] in
    omega (arith, first_grows sums known round later, within)

-- A rank that had left so many barriers, and then left the next one, did so at a round after the first of that barrier.
pub left_since : (me : Local) (more : List Entry) (round : ℕ) →
    HasLeft (gained me more) (barriers_left me) round → barrier_start me.here me.log < round
unfolding barrier_start
left_since me more round left =
    let old = sums_told me.here me.log in
    let new = sums_told me.here (me.log ++ more) in
    let known = rounds_known me.here me.log in
    let same : (j : ℕ) → j < known → old j ≡ new j = sums_stay me more in
    omega (arith, first_round-same old new known same, ends_later new known round left.ended (left.number ∙ ended_below-same old new known same))

-- ---- a rank takes the Total of a round after it put its own Count of that round

module _ (me : Local) (modest : IsModest me) where
  in_time : (log : List Entry) (from : ℕ) (letters : List Letter) → IsPrefix log me.log →
      list_any (too_soon (record me { log = log }) from) letters ≡ false →
      AllByRecursion (λ l. is_total l ≡ true → round_of l < counts me.log) letters
  in_time log from [] part none = tt
  in_time log from (l ∷ letters) part none = (
    (λ total.
        let soon = or_false_second (is_count l && nat_lt (totals from log) (round_of l)) _ (or_false_first _ _ none) in
        let put : round_of l < counts log = ltb-true _ _ (not-false _ (and_false_second (is_total l) _ total soon)) in
        omega (arith, put, counts_of_prefix log me.log part)),
    in_time log from letters part (or_false_second _ _ none),
  )

  pub counted_known : (q : ℕ) → q < rounds_known me.here me.log → q < counts me.log
  unfolding total_taken
  counted_known q known = by_total (total_taken me.here q me.log) refl (took_total me q known)
    where
      Q : Letter → Type 0
      Q l = is_total l ≡ true → round_of l < counts me.log

      put : AllByRecursion Q (letters_of (batches_taken 0 me.log))
      put =
          each_link (λ from. Q) 0 me.log (each_batch (λ from. Q) me.log (λ k from letters at.
          in_time (take k me.log) from letters (prefix_take k me.log) (modest.control.in_turn k from letters at)))

      by_total : (o : Option Letter) → total_taken me.here q me.log ≡ o → is_some o ≡ true → q < counts me.log
      by_total None taken some = absurd (false≢true some)
      by_total (Some l) taken some =
          let test : Letter → Bool = λ x. is_total_to me.here x && nat_eq (round_of x) q in
          let there = find_found Q test _ l put taken in
          let round : round_of l ≡ q = eqb-true _ q (and_second (is_total_to me.here l) (nat_eq (round_of l) q) there.1) in
          omega (arith, round, there.0 (and_first _ _ (and_first _ _ (and_first _ _ there.1))))
