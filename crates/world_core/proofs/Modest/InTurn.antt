-- In a world whose rounds say what is so, each rank takes Counts and Totals in their turn, and the Counts that it took
-- have small sums.
use Rattle.std.proofs.Common.{◌≡◌, ℕ, zero, suc, ◌≤◌, ◌<◌, ◌&&◌, Bool, true, false, not, nat_eq, eqb-true, le-ltb, lt-ltb, is_some, Option, Some, None, slice_get, take, List, [], ◌∷◌, ◌++◌, length, filter, refl, sym, ap, ◌∙◌, subst, inl, inr, arith, le_trans}
use Rattle.std.specs.List.{AllByRecursion, list_any}
use Rattle.std.proofs.lemmas.Bool.{cases_eq, false≢true, or_from}
use Rattle.std.proofs.lemmas.Option.{same_Some}
use Rattle.list_facts.proofs.Elements.{all_first, all_prefix, all_second, all_weaker, both_of, every, find_found}
use Rattle.list_facts.proofs.Filters.{none_kept}
use Rattle.list_facts.proofs.Prefix.{prefix_filter, prefix_joined}
use Rattle.list_facts.proofs.Sums.{sum_upto-each_le, sum_upto-le}
use Rattle.list_facts.proofs.Tests.{and_first, and_second, none_any}
use Rattle.msg_codec.specs.Control.{is_count, is_total, round_of}
use Rattle.msg_codec.specs.declared.letter.Letter.{Letter}
use Rattle.world_core.specs.declared.entry.Entry.{Entry}
use Rattle.world_core.specs.declared.entry.Entry.TheVariants.{Took}
use Rattle.world_core.specs.Counts.{count_taken, counts, is_total_to, IsTrueCount, total_taken, totals}
use Rattle.world_core.specs.Limits.{most_arrived, most_letters}
use Rattle.world_core.specs.Local.{Local}
use Rattle.world_core.specs.Log.{batches_put, batches_taken, letters_of}
use Rattle.world_core.specs.Modest.{AreInTurn, AreNumbered, too_soon}
use Rattle.world_core.specs.Pairs.{own_count, run_count}
use Rattle.world_core.specs.Rounds.{sums_in}
use Rattle.world_core.specs.Wave.{IsTrueTotal}
use Rattle.world_core.specs.World.{Logs, local, log_of}
use Rattle.world_core.proofs.Counts.BeforeCount.{before_part}
use Rattle.world_core.proofs.Counts.InOrder.{numbered_below, numbered_prefix}
use Rattle.world_core.proofs.Log.AtEntry.{entry_more}
use Rattle.world_core.proofs.Log.ByLink.{each_put}
use Rattle.world_core.proofs.Pairs.Numbers.{own_of_prefix, run_of_prefix}
use Rattle.world_core.proofs.Sound.OnPath.{Base, alone}
use Rattle.world_core.proofs.Wave.Balanced.{all_own, all_run, balanced}
use Rattle.world_core.proofs.Wave.Kept.{Core}
use Rattle.world_core.proofs.Wave.Told.{count_is}

-- ---- one log

-- no letter that it took came too soon
abbrev pub TookInTurn : Local → Type 0
TookInTurn me = (k from : ℕ) (letters : List Letter) → slice_get me.log k ≡ Some (Took from letters) →
    list_any (too_soon (record me { log = take k me.log }) from) letters ≡ false

-- and so it is with one entry more
pub turn_more : (me : Local) (entry : Entry) → TookInTurn me →
    ((from : ℕ) (letters : List Letter) → entry ≡ Took from letters → list_any (too_soon me from) letters ≡ false) →
    TookInTurn (record me { log = me.log ++ entry ∷ [] })
turn_more me entry turns next k from letters h =
    let P : List Entry → Entry → Type 0 = λ log e. (rank : ℕ) (taken : List Letter) → e ≡ Took rank taken →
    list_any (too_soon (record me { log = log }) rank) taken ≡ false in
    let before : (j : ℕ) (e : Entry) → slice_get me.log j ≡ Some e → P (take j me.log) e =
    λ j e there rank taken is. turns j rank taken (there ∙ ap Some is) in
    entry_more P me.log entry before next k (Took from letters) h from letters refl

-- ---- letters of batches

-- what holds of the letters of all batches holds of those of each
of_batch : (P : Letter → Type 0) (batches : List (List Letter)) (k : ℕ) (letters : List Letter) →
    AllByRecursion P (letters_of batches) → slice_get batches k ≡ Some letters → AllByRecursion P letters
of_batch P [] k letters all h = absurd cc
of_batch P (batch ∷ batches) zero letters all h =
    let same : batch ≡ letters = same_Some batch letters h in
    subst (AllByRecursion P) same (all_first P batch (letters_of batches) all)
of_batch P (batch ∷ batches) (suc k) letters all h =
    of_batch P batches k letters (all_second P batch (letters_of batches) all) h

and_if : (a b : Bool) → (a ≡ true → b ≡ false) → (a && b) ≡ false
and_if true b f = f refl
and_if false b f = refl

module _ (world : Logs) (base : Base world) (core : Core world) where
  -- ---- small sums

  -- what a Count carries, or where there is none, isn't more than its rank sent and ran
  record IsWithin (rank : ℕ) (o : Option Letter) : Type 0 where
    sent : (sums_in o).sent ≤ own_count rank (log_of world rank)
    run : (sums_in o).run ≤ run_count rank (log_of world rank)

  within : (at rank q : ℕ) (o : Option Letter) → count_taken rank q (log_of world at) ≡ o → IsWithin rank o
  within at rank q None taken = record { sent = omega arith; run = omega arith }
  within at rank q (Some l) taken =
      let is = count_is world core.agree core.numbered at rank q l taken in
      let part = before_part q (log_of world rank) in
      record { sent = omega (arith, is.sent, own_of_prefix rank part); run = omega (arith, is.run, run_of_prefix rank part) }

  few_own : all_own world ≤ most_arrived
  few_own =
      let own : ℕ → ℕ = λ rank. own_count rank (log_of world rank) in
      let most = sum_upto-le own most_letters world.layout.ranks (λ rank _. (alone world base rank).few) in
      omega (arith, most, base.laid_out.few_ranks)

  few_run : all_run world ≤ most_arrived
  few_run = le_trans (balanced world base).bounded few_own

  -- ---- in the order of their rounds

  in_order : (p : Letter → Bool) (from to : ℕ) →
      AreNumbered 0 (filter p (letters_of (batches_put to (log_of world from)))) →
      AreNumbered 0 (filter p (letters_of (batches_taken from (log_of world to))))
  in_order p from to numbered =
      let taken = prefix_filter p (prefix_joined (base.agree from to)) in
      numbered_prefix 0 _ taken.rest (subst (AreNumbered 0) (sym taken.joined) numbered)

  -- ---- not too soon

  -- a Total that a rank took was put to it
  was_put : (rank q : ℕ) (o : Option Letter) → total_taken rank q (log_of world rank) ≡ o → is_some o ≡ true →
      q < totals rank (log_of world 0)
  unfolding total_taken
  was_put rank q None taken some = absurd (false≢true some)
  was_put rank q (Some l) taken some =
      let most = totals rank (log_of world 0) in
      let P : Letter → Type 0 = λ x. is_total x ≡ true → round_of x < most in
      let numbered = (alone world base 0).ordered.totals_up rank in
      let put : AllByRecursion P (letters_of (batches_put rank (log_of world 0))) =
      numbered_below 0 most is_total _ numbered (omega arith) in
      let test : Letter → Bool = λ x. is_total_to rank x && nat_eq (round_of x) q in
      let there = find_found P test _ l (all_prefix P (prefix_joined (base.agree 0 rank)) put) taken in
      let round : round_of l ≡ q = eqb-true _ q (and_second (is_total_to rank l) (nat_eq (round_of l) q) there.1) in
      let number : round_of l < most = there.0 (and_first _ _ (and_first _ _ (and_first _ _ there.1))) in
      omega (arith, round, number)

  -- a rank that put a Count was sent the Totals of the rounds before
  sent_before : (rank q : ℕ) → q < counts (log_of world rank) → q ≤ totals rank (log_of world 0)
  sent_before rank zero put = omega arith
  sent_before rank (suc q) put =
      omega (arith, was_put rank q (total_taken rank q (log_of world rank)) refl ((core.numbered rank).told q put))

  -- Counts go to rank 0 alone
  counts_to_first : (from to : ℕ) →
      AllByRecursion (λ l. is_count l ≡ true → to ≡ 0) (letters_of (batches_put to (log_of world from)))
  counts_to_first from to = elim (cases_eq to 0) [
    | inl first ↦ every _ _ (λ l _. first)
    | inr other ↦ all_weaker (λ l. is_count l ≡ false) _ _ (λ l none is. absurd (false≢true (sym none ∙ is)))
        (none_kept is_count _ ((alone world base from).ordered.to_first to other))
  ]

  -- a letter that is true, and to rank 0 if it is a Count, doesn't come too soon
  abbrev Says : ℕ → ℕ → Letter → Type 0
  Says from to l = IsTrueCount from (log_of world from) l × (is_count l ≡ true → to ≡ 0)

  in_time : (from to : ℕ) → to < world.layout.ranks → (l : Letter) → Says from to l → IsTrueTotal world l →
      too_soon (local world to) from l ≡ false
  in_time from to inside l says total =
      let sent : is_count l ≡ true → round_of l ≤ totals from (log_of world to) =
      λ is. rw (says.1 is) (sent_before from (round_of l) (says.0 is).put) in
      or_from _ _ (and_if _ _ (λ is. le-ltb _ (round_of l) (sent is)))
      (and_if _ _ (λ is. ap not (lt-ltb (round_of l) (counts (log_of world to)) ((total is).0 to inside))))

  -- the next batch of a link has no letter that comes too soon
  pub next_in_turn : (from to : ℕ) (letters : List Letter) → to < world.layout.ranks →
      slice_get (batches_put to (log_of world from)) (length (batches_taken from (log_of world to))) ≡ Some letters →
      list_any (too_soon (local world to) from) letters ≡ false
  next_in_turn from to letters inside next =
      let counts_true = each_put _ (log_of world from) (core.numbered from).each to in
      let totals_true = each_put _ (log_of world from) (core.totals from) to in
      let says = both_of _ _ (Says from to) _ (λ l a b. (a, b)) counts_true (counts_to_first from to) in
      let P : Letter → Type 0 = λ l. too_soon (local world to) from l ≡ false in
      let each = both_of _ _ P _ (in_time from to inside) says totals_true in
      none_any _ letters (of_batch P _ (length (batches_taken from (log_of world to))) letters each next)

  pub are_in_turn : ((rank : ℕ) → rank < world.layout.ranks → TookInTurn (local world rank)) →
      (rank : ℕ) → rank < world.layout.ranks → AreInTurn (local world rank)
  are_in_turn turns rank inside = record {
    few_sent = λ q. le_trans (sum_upto-each_le _ _ world.layout.ranks (λ j _. (within rank j q _ refl).sent)) few_own;
    few_run = λ q. le_trans (sum_upto-each_le _ _ world.layout.ranks (λ j _. (within rank j q _ refl).run)) few_run;
    counts_in_order = λ from. in_order is_count from rank ((alone world base from).ordered.counts_up rank);
    totals_in_order = λ from. in_order is_total from rank ((alone world base from).ordered.totals_up rank);
    in_turn = turns rank inside;
  }
