-- A barrier has room for the letters that its rank keeps, while it agrees with a modest log: the Counts and Totals in that
-- log came in their turn.
use Rattle.std.proofs.Common.{◌≡◌, ℕ, suc, ◌+◌, ◌<◌, ◌≤◌, ◌&&◌, Bool, true, false, cond, nat_lt, lt-ltb, List, [], ◌∷◌, ◌++◌, length, length-append, map, filter, take, drop, take-append-drop, refl, sym, ap, ◌∙◌, le_trans, inl, inr, arith}
use Rattle.std.specs.List.{AllByRecursion, list_any}
use Rattle.std.proofs.lemmas.Bool.{cases_lt, false≢true}
use Rattle.std.proofs.lemmas.List.{length-map, map-append}
use Rattle.std.proofs.lemmas.List.Elements.{filter-append}
use Rattle.list_facts.proofs.Tests.{and_false_second, or_false_first, or_false_second}
use Rattle.msg_codec.specs.Control.{is_count, round_of}
use Rattle.msg_codec.specs.declared.letter.Letter.{Letter}
use Rattle.world_core.specs.Counts.{counts, is_count_of, is_total_to, totals}
use Rattle.world_core.specs.Local.{Local}
use Rattle.world_core.specs.Log.{batches_taken, letters_of}
use Rattle.world_core.specs.Modest.{AreNumbered, IsModest, too_soon}
use Rattle.world_core.specs.Rounds.{rounds_known}
use Rattle.term_barrier.specs.Barriers.{BarrierAgrees, BarrierState, HasRoom, InRange, control_letters, counts_heard, heard_of, sums_of, totals_heard, totals_put}
use Rattle.term_barrier.proofs.Barriers.Agrees.{totals-append}
use Rattle.term_barrier.proofs.Barriers.Knows.{counts_over_link, known_at}
use Rattle.term_barrier.proofs.Left.Since.{counted_known}
use Rattle.term_barrier.proofs.Links.{each_batch, each_link}

-- ---- Counts

-- letters that are numbered from n on, each by at most a bound
numbered_within : (n most : ℕ) (letters : List Letter) → n ≤ most + 1 → AreNumbered n letters → AllByRecursion (λ l. round_of l ≤ most) letters →
    n + length letters ≤ most + 1
numbered_within n most [] le numbered all = omega (arith, le)
numbered_within n most (l ∷ letters) le numbered all =
    omega (arith, numbered_within (suc n) most letters (omega (arith, numbered.0, all.0)) numbered.1 all.1)

kept_of : (Q : Letter → Type 0) (p : Letter → Bool) (letters : List Letter) → AllByRecursion (λ l. p l ≡ true → Q l) letters →
    AllByRecursion Q (filter p letters)
kept_of Q p [] all = tt
kept_of Q p (l ∷ letters) all = by (p l) all.0 (kept_of Q p letters all.1)
  where
    by : (b : Bool) → (b ≡ true → Q l) → AllByRecursion Q (filter p letters) → AllByRecursion Q (cond b (l ∷ filter p letters) (filter p letters))
    by true here later = (here refl, later)
    by false here later = later

module _ (me : Local) (modest : IsModest me) where
  totals_grow : (k to : ℕ) → totals to (take k me.log) ≤ totals to me.log
  totals_grow k to =
      let both : take k me.log ++ drop k me.log ≡ me.log = take-append-drop k me.log in
      omega (arith, totals-append to (take k me.log) (drop k me.log), ap (totals to) both)

  in_turn : (k from : ℕ) (letters : List Letter) → list_any (too_soon (record me { log = take k me.log }) from) letters ≡ false →
      AllByRecursion (λ l. is_count l ≡ true → round_of l ≤ totals from me.log) letters
  in_turn k from [] none = tt
  in_turn k from (l ∷ letters) none = (
    (λ count.
        let late = and_false_second (is_count l) _ count (or_false_first _ _ (or_false_first _ _ none)) in
        elim (cases_lt (totals from (take k me.log)) (round_of l)) [
          | inl less ↦ absurd (false≢true (sym late ∙ lt-ltb _ _ less))
          | inr within ↦ le_trans within (totals_grow k from)
        ]),
    in_turn k from letters (or_false_second _ _ none),
  )

  -- A log took at most one Count of a rank more than it put Totals to it.
  pub few_counts : (from : ℕ) → length (counts_heard from (control_letters me.log)) ≤ totals from me.log + 1
  few_counts from =
      let letters = letters_of (batches_taken from me.log) in
      let Q : ℕ → Letter → Type 0 = λ rank l. is_count l ≡ true → round_of l ≤ totals rank me.log in
      let all : AllByRecursion (Q from) letters =
      each_link Q from me.log (each_batch Q me.log (λ k rank batch at. in_turn k rank batch (modest.control.in_turn k rank batch at))) in
      let few = numbered_within 0 (totals from me.log) (filter is_count letters) (omega arith) (modest.control.counts_in_order from)
      (kept_of (λ l. round_of l ≤ totals from me.log) is_count letters all) in
      omega (arith, length-map (filter (is_count_of from) (control_letters me.log)) sums_of, ap length (counts_over_link me modest from), few)

  -- it knows no round that it didn't count
  pub known_few : rounds_known me.here me.log ≤ counts me.log
  known_few = elim (cases_lt (counts me.log) (rounds_known me.here me.log)) [
    | inl less ↦ absurd (omega (arith, counted_known me modest (counts me.log) less))
    | inr within ↦ within
  ]

-- ---- a barrier

-- of letters that were handed over and others
parts_heard : (p : Letter → Bool) (one other : List Letter) →
    length (map sums_of (filter p (one ++ other))) ≡ length (map sums_of (filter p one)) + length (map sums_of (filter p other))
parts_heard p one other =
    ap (λ ls. length (map sums_of ls)) (filter-append p one other)
    ∙ ap length (map-append sums_of (filter p one) (filter p other))
    ∙ length-append (map sums_of (filter p one)) (map sums_of (filter p other))

put_few : (over : ℕ) (b : Bool) → over + cond b 1 0 ≤ over + 1
put_few over true = omega arith
put_few over false = omega arith

module _ (barrier : BarrierState) (kept : List Letter) (me : Local) (range : InRange barrier) (modest : IsModest me)
    (agrees : BarrierAgrees barrier kept me) where
  -- at most two Counts of a rank more than there are rounds that are over
  pub few_heard : (from : ℕ) → from < barrier.layout.ranks → (heard_of barrier from).rounds + length (counts_heard from kept) ≤ barrier.over + 2
  few_heard from within =
      let heard = agrees.its_rounds.heard_are from within in
      let put : totals_put barrier from ≡ totals from me.log = agrees.its_rounds.totals_are from within in
      let few : totals_put barrier from ≤ barrier.over + 1 = put_few barrier.over (nat_lt 0 from && nat_lt from barrier.next) in
      omega (
        arith,
        heard.rounds_are,
        parts_heard (is_count_of from) agrees.handed kept,
        ap (λ ls. length (counts_heard from ls)) agrees.in_order,
        few_counts me modest from,
        put,
        few,
      )

  -- and of rank 0 at most one
  pub few_first : 0 < barrier.layout.ranks → (heard_of barrier 0).rounds ≤ barrier.over + 1
  few_first within =
      let heard = agrees.its_rounds.heard_are 0 within in
      let put : totals_put barrier 0 ≡ totals 0 me.log = agrees.its_rounds.totals_are 0 within in
      let few : totals_put barrier 0 ≤ barrier.over = omega arith in
      omega (
        arith,
        heard.rounds_are,
        parts_heard (is_count_of 0) agrees.handed kept,
        ap (λ ls. length (counts_heard 0 ls)) agrees.in_order,
        few_counts me modest 0,
        put,
        few,
      )

  pub room : HasRoom barrier kept
  room = record {
    known =
        let parts = parts_heard (is_total_to barrier.here) agrees.handed kept in
        let all : length (totals_heard barrier.here (agrees.handed ++ kept)) ≡ length (totals_heard me.here (control_letters me.log)) =
        rw (agrees.in_order, agrees.here) refl in
        omega (
          arith,
          agrees.its_rounds.known_are,
          agrees.its_rounds.counts_are,
          parts,
          all,
          length-map (filter (is_total_to me.here) (control_letters me.log)) sums_of,
          known_at me modest,
          known_few me modest,
        );
    heard = λ from within. le_trans (few_heard from within) (omega (arith, range.over_few, range.counted_few, range.few));
  }
