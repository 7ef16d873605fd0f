-- In a modest log, the control letters say what the log does of the Counts and Totals that it took: each by its place.
use Rattle.std.proofs.Common.{◌≡◌, ℕ, zero, suc, ◌+◌, Bool, true, false, ◌&&◌, cond, nat_eq, eqb-true, eq-eqb, ne_eqb, is_some, List, [], ◌∷◌, length, map, filter, get_or, slice_get, refl, sym, ap, ◌∙◌, subst, le_trans, arith}
use Rattle.std.specs.List.{AllByRecursion, find, list_any}
use Rattle.std.proofs.lemmas.Bool.{false≢true, not-false}
use Rattle.std.proofs.lemmas.Option.{slice_get-get_or, slice_get_past}
use Rattle.list_facts.proofs.Below.{row_is}
use Rattle.list_facts.proofs.Elements.{all_weaker}
use Rattle.list_facts.proofs.Filters.{filter_fewer, filter_within}
use Rattle.list_facts.proofs.Tests.{and_first, and_false_second, and_second, or_false_first, or_false_second}
use Rattle.msg_codec.specs.Control.{is_control, is_count, is_total, round_of}
use Rattle.msg_codec.specs.declared.letter.Letter.{Letter}
use Rattle.world_core.specs.declared.entry.Entry.{Entry}
use Rattle.world_core.specs.declared.entry.Entry.TheVariants.{Put, Took}
use Rattle.world_core.specs.ControlRules.{wrong_control}
use Rattle.world_core.specs.Counts.{count_taken, is_count_of, is_total_to, total_taken}
use Rattle.world_core.specs.Local.{Local}
use Rattle.world_core.specs.Log.{batches_taken, letters_of, letters_taken}
use Rattle.world_core.specs.Modest.{AreNumbered, IsLawful, IsModest}
use Rattle.world_core.specs.Rounds.{rounds_known, sums_in, sums_told}
use Rattle.world_core.proofs.Log.ByLink.{only_taken}
use Rattle.world_core.proofs.Modest.Lawful.{lawful_batch, sender}
use Rattle.comm_rank.proofs.Agrees.AfterControl.{control_count, control_total}
use Rattle.term_barrier.specs.Barriers.{control_letters, no_sums, sums_heard, sums_of}
use Rattle.term_barrier.proofs.Links.{AllTook, each_link}

-- ---- numbered letters

-- of letters that are numbered from n on, the first of a round is the one at its place
find_numbered : (p : Letter → Bool) (n k : ℕ) (xs : List Letter) → AreNumbered n (filter p xs) →
    find (λ l. p l && nat_eq (round_of l) (n + k)) xs ≡ slice_get (filter p xs) k
find_numbered p n k [] numbered = refl
find_numbered p n k (x ∷ xs) numbered = by_test (p x) refl k numbered (λ m j h. find_numbered p m j xs h)
  where
    by_test : (b : Bool) → p x ≡ b → (j : ℕ) → AreNumbered n (cond b (x ∷ filter p xs) (filter p xs)) →
        ((m i : ℕ) → AreNumbered m (filter p xs) → find (λ l. p l && nat_eq (round_of l) (m + i)) xs ≡ slice_get (filter p xs) i) →
        find (λ l. p l && nat_eq (round_of l) (n + j)) (x ∷ xs) ≡ slice_get (filter p (x ∷ xs)) j
    by_test true passes zero h later =
        let this : nat_eq (round_of x) (n + 0) ≡ true = eq-eqb _ _ (omega (arith, h.0)) in
        rw (passes, this) refl
    by_test true passes (suc j) h later =
        let other : nat_eq (round_of x) (n + suc j) ≡ false = ne_eqb _ _ (λ e. absurd (omega (arith, e, h.0))) in
        let number : n + suc j ≡ suc n + j = omega arith in
        rw (passes, other) (ap (λ m. find (λ l. p l && nat_eq (round_of l) m) xs) number ∙ later (suc n) j h.1)
    by_test false fails j h later = rw fails (later n j h)

-- the sums in the letter at a place
pub sums_at_place : (letters : List Letter) (q : ℕ) → sums_in (slice_get letters q) ≡ get_or (map sums_of letters) q no_sums
sums_at_place [] zero = refl
sums_at_place [] (suc q) = refl
sums_at_place (l ∷ letters) zero = refl
sums_at_place (l ∷ letters) (suc q) = sums_at_place letters q

pub no_letter : Letter
no_letter = record { to = 0; from = 0; tag = 0; body = [] }

-- ---- letters of links

filter_alike : (p q : Letter → Bool) (xs : List Letter) → AllByRecursion (λ l. p l ≡ q l) xs → filter p xs ≡ filter q xs
filter_alike p q [] alike = refl
filter_alike p q (x ∷ xs) alike = rw (alike.0, filter_alike p q xs alike.1) refl

-- Letters of one kind come over one link, and over it alone in the order of their rounds.
module _ (log : List Entry) (p wide : Letter → Bool) (rank : ℕ)
    (alone : AllByRecursion (AllTook (λ from l. p l ≡ true → from ≡ rank)) log)
    (alike : AllByRecursion (λ l. p l ≡ wide l) (letters_of (batches_taken rank log)))
    (control : (l : Letter) → p l ≡ true → is_control l ≡ true)
    (numbered : AreNumbered 0 (filter wide (letters_of (batches_taken rank log)))) where
  over_link : filter p (control_letters log) ≡ filter p (letters_of (batches_taken rank log))
  over_link =
      filter_within p is_control (letters_taken log) control
      ∙ only_taken p rank (λ from l. p l ≡ true → from ≡ rank) (λ from l is passes. is passes) log
      (λ from. each_link (λ r l. p l ≡ true → r ≡ rank) from log alone)

  found_at : (q : ℕ) → find (λ l. p l && nat_eq (round_of l) q) (letters_of (batches_taken rank log)) ≡ slice_get (filter p (control_letters log)) q
  found_at q =
      let letters = letters_of (batches_taken rank log) in
      let number : 0 + q ≡ q = omega arith in
      ap (λ m. find (λ l. p l && nat_eq (round_of l) m) letters) (sym number)
      ∙ find_numbered p 0 q letters (subst (AreNumbered 0) (sym (filter_alike p wide letters alike)) numbered)
      ∙ ap (λ xs. slice_get xs q) (sym over_link)

-- ---- the letters of a lawful log

and_three : (a b c : Bool) → ((a && b) && c) ≡ true → (a ≡ true) × (b ≡ true) × (c ≡ true)
and_three a b c h = (and_first a b (and_first (a && b) c h), and_second a b (and_first (a && b) c h), and_second (a && b) c h)

-- a Total comes from rank 0 to this rank, and a Count from the rank at the other end of its link
record IsRight (here from : ℕ) (l : Letter) : Type 0 where
  total : is_total l ≡ true → (nat_eq from 0 ≡ true) × (nat_eq l.from 0 ≡ true) × (nat_eq l.to here ≡ true)
  count : is_count l ≡ true → (nat_eq l.from from ≡ true) × (nat_eq l.to 0 ≡ true) × (nat_eq here 0 ≡ true)

module _ (me : Local) where
  right_letters : (from : ℕ) (letters : List Letter) → list_any (wrong_control (sender me from) me.here) letters ≡ false → AllByRecursion (IsRight me.here from) letters
  right_letters from [] right = tt
  right_letters from (l ∷ letters) right =
      let here = or_false_first (wrong_control (sender me from) me.here l) _ right in
      let one : IsRight me.here from l = record {
        total = λ is. and_three _ _ _ (not-false _ (and_false_second (is_total l) _ is (or_false_second _ _ here)));
        count = λ is. and_three _ _ _ (not-false _ (and_false_second (is_count l) _ is (or_false_first _ _ here)));
      } in
      (one, right_letters from letters (or_false_second _ _ right))

  right_log : (log : List Entry) → AllByRecursion (IsLawful me) log → AllByRecursion (AllTook (IsRight me.here)) log
  right_log [] lawful = tt
  right_log (Put to letters ∷ log) lawful = (tt, right_log log lawful.1)
  right_log (Took from letters ∷ log) lawful = (right_letters from letters (lawful_batch me from letters lawful.0).control, right_log log lawful.1)

total_of : (here : ℕ) (l : Letter) → is_total_to here l ≡ true → is_total l ≡ true
total_of here l is = (and_three (is_total l) (nat_eq l.from 0) (nat_eq l.to here) is).0

count_of : (from : ℕ) (l : Letter) → is_count_of from l ≡ true → (is_count l ≡ true) × (l.from ≡ from)
count_of from l is = let parts = and_three (is_count l) (nat_eq l.from from) (nat_eq l.to 0) is in (parts.0, eqb-true l.from from parts.1)

-- two tests of which each implies the other
same_test : (a b : Bool) → (a ≡ true → b ≡ true) → (b ≡ true → a ≡ true) → a ≡ b
same_test true b f g = sym (f refl)
same_test false true f g = absurd (false≢true (g refl))
same_test false false f g = refl

module _ (me : Local) (modest : IsModest me) where
  right : AllByRecursion (AllTook (IsRight me.here)) me.log
  right = right_log me me.log modest.lawful

  -- what follows from it for each batch
  so_each : (Q : ℕ → Letter → Type 0) → ((from : ℕ) (l : Letter) → IsRight me.here from l → Q from l) → AllByRecursion (AllTook Q) me.log
  so_each Q weaker = all_weaker (AllTook (IsRight me.here)) (AllTook Q) me.log by_entry right
    where
      by_entry : (entry : Entry) → AllTook (IsRight me.here) entry → AllTook Q entry
      by_entry (Put to letters) h = tt
      by_entry (Took from letters) h = all_weaker (IsRight me.here from) (Q from) letters (weaker from) h

  -- the Total of a round is the one at its place
  pub total_at : (q : ℕ) → total_taken me.here q me.log ≡ slice_get (filter (is_total_to me.here) (control_letters me.log)) q
  unfolding total_taken
  total_at q =
      found_at me.log (is_total_to me.here) is_total 0
      (so_each _ (λ from l h is. eqb-true from 0 (h.total (total_of me.here l is)).0))
      (each_link (λ from l. is_total_to me.here l ≡ is_total l) 0 me.log
      (so_each _ (λ from l h. same_test (is_total_to me.here l) (is_total l) (total_of me.here l) (λ is. let parts = h.total is in rw (is, parts.1, parts.2) refl))))
      (λ l is. control_total l (total_of me.here l is))
      (modest.control.totals_in_order 0) q

  -- and so is the Count of a rank
  module _ (from : ℕ) where
    alone : AllByRecursion (AllTook (λ rank l. is_count_of from l ≡ true → rank ≡ from)) me.log
    alone = so_each _ (λ rank l h is. let count = count_of from l is in sym (eqb-true l.from rank (h.count count.0).0) ∙ count.1)

    alike : AllByRecursion (λ l. is_count_of from l ≡ is_count l) (letters_of (batches_taken from me.log))
    alike =
        each_link (λ rank l. is_count_of rank l ≡ is_count l) from me.log
        (so_each _ (λ rank l h. same_test (is_count_of rank l) (is_count l) (λ is. (count_of rank l is).0) (λ is. let parts = h.count is in rw (is, parts.0, parts.1) refl)))

    control : (l : Letter) → is_count_of from l ≡ true → is_control l ≡ true
    control l is = control_count l (count_of from l is).0

    pub count_at : (q : ℕ) → count_taken from q me.log ≡ slice_get (filter (is_count_of from) (control_letters me.log)) q
    unfolding count_taken
    count_at q = found_at me.log (is_count_of from) is_count from alone alike control (modest.control.counts_in_order from) q

    -- the Counts of a rank are those that came over its link
    pub counts_over_link : filter (is_count_of from) (control_letters me.log) ≡ filter is_count (letters_of (batches_taken from me.log))
    counts_over_link =
        over_link me.log (is_count_of from) is_count from alone alike control (modest.control.counts_in_order from)
        ∙ filter_alike (is_count_of from) is_count (letters_of (batches_taken from me.log)) alike

  -- ---- rounds

  abbrev heard : List Letter
  heard = filter (is_total_to me.here) (control_letters me.log)

  pub known_at : rounds_known me.here me.log ≡ length heard
  unfolding rounds_known
  known_at =
      row_is (λ q. is_some (total_taken me.here q me.log)) (length (letters_taken me.log)) (length heard)
      (le_trans (filter_fewer (is_total_to me.here) (control_letters me.log)) (filter_fewer is_control (letters_taken me.log)))
      (λ q lt. ap is_some (total_at q ∙ slice_get-get_or heard q no_letter lt))
      (λ lt. ap is_some (total_at (length heard) ∙ slice_get_past heard (length heard) (omega arith)))

  pub told_at : (q : ℕ) → sums_heard me.here (control_letters me.log) q ≡ sums_told me.here me.log q
  told_at q = sym (ap sums_in (total_at q) ∙ sums_at_place heard q)
