-- A rank that may put an own letter may put it later too, and it may once it took a letter for itself.
use Rattle.std.proofs.Common.{◌≡◌, ◌⊎◌, ℕ, zero, suc, pred, ◌≤◌, ◌<◌, Bool, true, false, not, ◌&&◌, nat_eq, nat_lt, lt-ltb, le-ltb, ne_eqb, eq-eqb, List, [], ◌∷◌, ◌++◌, refl, sym, ap, ◌∙◌, inl, inr, arith}
use Rattle.std.specs.Bool.{IsTrue}
use Rattle.std.specs.List.{AllByRecursion, list_any}
use Rattle.std.proofs.lemmas.Bool.{cases_lt, false≢true}
use Rattle.list_facts.proofs.Elements.{all_first, all_second, all_weaker}
use Rattle.list_facts.proofs.Tests.{none_any}
use Rattle.msg_codec.specs.Control.{is_count}
use Rattle.msg_codec.specs.declared.letter.Letter.{Letter}
use Rattle.world_core.specs.declared.entry.Entry.{Entry}
use Rattle.world_core.specs.declared.entry.Entry.TheVariants.{Put, Took}
use Rattle.world_core.specs.ControlRules.{is_free}
use Rattle.world_core.specs.Counts.{before_count, counts, puts_count}
use Rattle.world_core.specs.Local.{Local}
use Rattle.world_core.specs.Log.{letters_put}
use Rattle.world_core.specs.Pairs.{is_data, run_count, run_number}
use Rattle.world_core.specs.Rounds.{barrier_start}
use Rattle.world_core.proofs.Counts.AfterPut.{counts-none}
use Rattle.world_core.proofs.Counts.BeforeCount.{before_part, before_stands}
use Rattle.world_core.proofs.Deeds.TwoKinds.{data_not_count}
use Rattle.world_core.proofs.Pairs.Numbers.{run_count-append, run_count-took, run_of_prefix}
use Rattle.world_core.proofs.Rounds.BarrierStart.{start_grows}

-- what ran at a rank before its last Count
abbrev run_before : Local → ℕ
run_before me = run_count me.here (before_count (pred (counts me.log)) me.log)

not_both : (a b : Bool) → a ≡ false → not (a && b) ≡ true
not_both false b h = refl
not_both true b h = absurd cc

not_second : (a b : Bool) → b ≡ false → not (a && b) ≡ true
not_second true false h = refl
not_second false false h = refl
not_second a true h = absurd cc

-- ---- when a rank is free

-- it took the Total that ends the barrier of its last Count
pub free_ended : (me : Local) → counts me.log ≤ barrier_start me.here me.log → is_free me ≡ true
free_ended me ended = not_both _ _ (le-ltb _ _ ended)

-- letters ran since its last Count
pub free_ran : (me : Local) → run_before me < run_count me.here me.log → is_free me ≡ true
free_ran me ran = not_second _ _ (ne_eqb (run_count me.here me.log) (run_before me) (λ same. absurd (omega (arith, ran, same))))

-- one of the two is so
either_is : (start n before now : ℕ) → before ≤ now → not (nat_lt start n && nat_eq now before) ≡ true → (n ≤ start) ⊎ (before < now)
either_is start n before now most free = elim (cases_lt start n) [
  | inr within ↦ inl within
  | inl less ↦ elim (cases_lt before now) [
    | inl ran ↦ inr ran
    | inr within ↦
        let counted : nat_lt start n ≡ true = lt-ltb _ _ less in
        let idle : nat_eq now before ≡ true = eq-eqb _ _ (omega (arith, within, most)) in
        let held : not (nat_lt start n && nat_eq now before) ≡ false = rw (counted, idle) refl in
        absurd (false≢true (sym held ∙ free))
  ]
]

pub free_cases : (me : Local) → is_free me ≡ true → (counts me.log ≤ barrier_start me.here me.log) ⊎ (run_before me < run_count me.here me.log)
free_cases me free =
    let most : run_before me ≤ run_count me.here me.log = run_of_prefix me.here (before_part (pred (counts me.log)) me.log) in
    either_is (barrier_start me.here me.log) (counts me.log) (run_before me) (run_count me.here me.log) most free

-- ---- its log gains an entry without a Count

module _ (me : Local) (entry : Entry) (none : puts_count entry ≡ false) where
  abbrev now : Local
  now = record me { log = me.log ++ entry ∷ [] }

  same_counts : counts now.log ≡ counts me.log
  same_counts = counts-none me.log entry none

  same_before : (n : ℕ) → counts me.log ≡ suc n → run_before now ≡ run_before me
  same_before n is =
      let stands : before_count n now.log ≡ before_count n me.log = before_stands n me.log (entry ∷ []) (omega (arith, is)) in
      rw (same_counts, is) (ap (run_count me.here) stands)

  -- letters that ran before it or with it
  ran_on : run_before me < run_count me.here now.log → is_free now ≡ true
  ran_on ran = by_counts (counts me.log) refl
    where
      by_counts : (n : ℕ) → counts me.log ≡ n → is_free now ≡ true
      by_counts zero is = free_ended now (omega (arith, same_counts, is))
      by_counts (suc n) is = free_ran now (omega (arith, ran, same_before n is))

  pub stays_free : is_free me ≡ true → is_free now ≡ true
  stays_free free = elim (free_cases me free) [
    | inl ended ↦ free_ended now (omega (arith, ended, same_counts, start_grows me.here me.log entry))
    | inr ran ↦ ran_on (omega (arith, ran, run_count-append me.here me.log (entry ∷ [])))
  ]

-- it took a letter for itself
pub free_took : (me : Local) (from : ℕ) (batch : List Letter) → 0 < run_number me.here batch → is_free (record me { log = me.log ++ Took from batch ∷ [] }) ≡ true
free_took me from batch some =
    let most : run_before me ≤ run_count me.here me.log = run_of_prefix me.here (before_part (pred (counts me.log)) me.log) in
    ran_on me (Took from batch) refl (omega (arith, some, most, run_count-took me.here me.log from batch))

-- a log that put data letters alone has no Counts,
pub data_uncounted : (letters : List Letter) → AllByRecursion (λ l. IsTrue (is_data l)) letters → list_any is_count letters ≡ false
data_uncounted letters all = none_any is_count letters (all_weaker (λ l. IsTrue (is_data l)) (λ l. is_count l ≡ false) letters data_not_count all)

pub no_counts : (log : List Entry) → AllByRecursion (λ l. IsTrue (is_data l)) (letters_put log) → counts log ≡ 0
no_counts [] all = refl
no_counts (Took from batch ∷ log) all = no_counts log all
no_counts (Put to batch ∷ log) all =
    let none : list_any is_count batch ≡ false = data_uncounted batch (all_first (λ l. IsTrue (is_data l)) batch (letters_put log) all) in
    rw none (no_counts log (all_second (λ l. IsTrue (is_data l)) batch (letters_put log) all))

-- and one without Counts is free
pub free_uncounted : (me : Local) → counts me.log ≡ 0 → is_free me ≡ true
free_uncounted me none = free_ended me (omega (arith, none))
