-- An honest log puts Counts and Totals over each link in the order of their rounds: all Counts to rank 0, and each with no other Count.
use Rattle.std.proofs.Common.{◌≡◌, ◌≢◌, ℕ, suc, ◌+◌, ◌≤◌, ◌<◌, ◌&&◌, Bool, true, false, cond, nat_eq, eqb-true, eq-eqb, ne_eqb, List, [], ◌∷◌, ◌++◌, length, filter, refl, sym, ap, ◌∙◌, arith, append-nil, length-append, if◌then◌else◌}
use Rattle.std.specs.List.{AllByRecursion}
use Rattle.std.proofs.lemmas.Bool.{not-false}
use Rattle.std.proofs.lemmas.Grind.{flat_map-append}
use Rattle.std.proofs.lemmas.List.Elements.{filter-append}
use Rattle.list_facts.proofs.Filters.{filter_none}
use Rattle.list_facts.proofs.Tests.{and_second, and_false_second, none_any, or_false_first}
use Rattle.msg_codec.specs.Control.{is_count, is_total, round_of}
use Rattle.msg_codec.specs.declared.letter.Letter.{Letter}
use Rattle.world_core.specs.declared.entry.Entry.{Entry}
use Rattle.world_core.specs.declared.entry.Entry.TheVariants.{Put, Took}
use Rattle.world_core.specs.ControlRules.{count_early, total_early, wrong_control}
use Rattle.world_core.specs.Counts.{counts, totals}
use Rattle.world_core.specs.Local.{Local}
use Rattle.world_core.specs.Log.{batches_put, letters_of}
use Rattle.world_core.specs.Modest.{AreNumbered}
use Rattle.world_core.proofs.Counts.AfterPut.{count_early-first, counts-none, counts-one, total_early-first}
use Rattle.world_core.proofs.Deeds.Unbroken.{Unbroken}
use Rattle.world_core.proofs.Deeds.Unmixed.{no_control, no_count, no_total, not_both}
use Rattle.world_core.proofs.Log.Appended.{batches_put-put, batches_put-took}

-- ---- numbered letters

pub numbered_push : (n : ℕ) (xs : List Letter) (l : Letter) → AreNumbered n xs → round_of l ≡ n + length xs → AreNumbered n (xs ++ l ∷ [])
numbered_push n [] l numbered is = ((let e : n + 0 ≡ n = omega arith in is ∙ e), tt)
numbered_push n (x ∷ xs) l numbered is =
    let e : n + suc (length xs) ≡ suc n + length xs = omega arith in
    (numbered.0, numbered_push (suc n) xs l numbered.1 (is ∙ e))

pub numbered_prefix : (n : ℕ) (xs ys : List Letter) → AreNumbered n (xs ++ ys) → AreNumbered n xs
numbered_prefix n [] ys numbered = tt
numbered_prefix n (x ∷ xs) ys numbered = (numbered.0, numbered_prefix (suc n) xs ys numbered.1)

-- their rounds are below the number after the last
pub numbered_below : (n most : ℕ) (p : Letter → Bool) (xs : List Letter) → AreNumbered n (filter p xs) → n + length (filter p xs) ≤ most →
    AllByRecursion (λ l. p l ≡ true → round_of l < most) xs
numbered_below n most p [] numbered le = tt
numbered_below n most p (x ∷ xs) numbered le = by_test (p x) refl numbered le (λ k h i. numbered_below k most p xs h i)
  where
    by_test : (b : Bool) → p x ≡ b → AreNumbered n (cond b (x ∷ filter p xs) (filter p xs)) → n + length (cond b (x ∷ filter p xs) (filter p xs)) ≤ most →
        ((k : ℕ) → AreNumbered k (filter p xs) → k + length (filter p xs) ≤ most → AllByRecursion (λ l. p l ≡ true → round_of l < most) xs) →
        AllByRecursion (λ l. p l ≡ true → round_of l < most) (x ∷ xs)
    by_test true passes h i later = ((λ _. omega (arith, h.0, i)), later (suc n) h.1 (omega (arith, i)))
    by_test false fails h i later = ((λ yes. absurd cc), later n h i)

-- ---- the letters of a kind that a log puts over a link

abbrev over : (Letter → Bool) → ℕ → List Entry → List Letter
over p rank log = filter p (letters_of (batches_put rank log))

given : (p : Letter → Bool) (b : Bool) (letters : List Letter) → filter p (letters_of (if b then letters ∷ [] else [])) ≡ (if b then filter p letters else [])
given p true letters = ap (filter p) (append-nil letters)
given p false letters = refl

over-put : (p : Letter → Bool) (log : List Entry) (to rank : ℕ) (letters : List Letter) →
    over p rank (log ++ Put to letters ∷ []) ≡ over p rank log ++ (if nat_eq to rank then filter p letters else [])
over-put p log to rank letters =
    ap (λ bs. filter p (letters_of bs)) (batches_put-put log to rank letters)
    ∙ ap (filter p) (flat_map-append (λ batch. batch) (batches_put rank log) (if nat_eq to rank then letters ∷ [] else []))
    ∙ filter-append p (letters_of (batches_put rank log)) _
    ∙ ap (λ xs. over p rank log ++ xs) (given p (nat_eq to rank) letters)

nothing : (b : Bool) (xs : List Letter) → xs ≡ [] → (if b then xs else []) ≡ []
nothing true xs none = none
nothing false xs none = refl

over-none : (p : Letter → Bool) (log : List Entry) (to rank : ℕ) (letters : List Letter) → AllByRecursion (λ l. p l ≡ false) letters →
    over p rank (log ++ Put to letters ∷ []) ≡ over p rank log
over-none p log to rank letters none =
    over-put p log to rank letters
    ∙ ap (λ xs. over p rank log ++ xs) (nothing (nat_eq to rank) (filter p letters) (filter_none p letters none))
    ∙ append-nil (over p rank log)

over-one : (p : Letter → Bool) (log : List Entry) (to rank : ℕ) (l : Letter) → p l ≡ true →
    over p rank (log ++ Put to (l ∷ []) ∷ []) ≡ over p rank log ++ (if nat_eq to rank then l ∷ [] else [])
over-one p log to rank l passes = over-put p log to rank (l ∷ []) ∙ rw passes refl

-- one letter that has the next number
numbered_one : (p : Letter → Bool) (log : List Entry) (to : ℕ) (l : Letter) → p l ≡ true → round_of l ≡ length (over p to log) →
    (rank : ℕ) → AreNumbered 0 (over p rank log) → AreNumbered 0 (over p rank (log ++ Put to (l ∷ []) ∷ []))
numbered_one p log to l passes number rank numbered = rw (over-one p log to rank l passes) (by_link (nat_eq to rank) refl)
  where
    by_link : (b : Bool) → nat_eq to rank ≡ b → AreNumbered 0 (over p rank log ++ (if b then l ∷ [] else []))
    by_link true is =
        let same : length (over p to log) ≡ length (over p rank log) = ap (λ r. length (over p r log)) (eqb-true to rank is) in
        numbered_push 0 (over p rank log) l numbered (omega (arith, number, same))
    by_link false is = rw (append-nil (over p rank log)) numbered

-- ---- one log

pub record Ordered (me : Local) : Type 0 where
  pub counts_up : (to : ℕ) → AreNumbered 0 (filter is_count (letters_of (batches_put to me.log)))
  pub totals_up : (to : ℕ) → AreNumbered 0 (filter is_total (letters_of (batches_put to me.log)))
  pub all_counts : length (filter is_count (letters_of (batches_put 0 me.log))) ≡ counts me.log
  pub to_first : (to : ℕ) → to ≢ 0 → filter is_count (letters_of (batches_put to me.log)) ≡ []

abbrev after : Local → Entry → Local
after me entry = record me { log = me.log ++ entry ∷ [] }

pub ordered_nil : (me : Local) → me.log ≡ [] → Ordered me
ordered_nil me none = record { counts_up = λ to. rw none tt; totals_up = λ to. rw none tt; all_counts = rw none refl; to_first = λ to other. rw none refl }

pub ordered_took : (me : Local) (from : ℕ) (letters : List Letter) → Ordered me → Ordered (after me (Took from letters))
ordered_took me from letters ordered = record {
  counts_up = λ to. rw (batches_put-took me.log from to letters) (ordered.counts_up to);
  totals_up = λ to. rw (batches_put-took me.log from to letters) (ordered.totals_up to);
  all_counts = rw (batches_put-took me.log from 0 letters) (ordered.all_counts ∙ sym (counts-none me.log (Took from letters) refl));
  to_first = λ to other. rw (batches_put-took me.log from to letters) (ordered.to_first to other);
}

module _ (me : Local) (to : ℕ) (ordered : Ordered me) where
  plain : (letters : List Letter) → AllByRecursion (λ l. is_count l ≡ false) letters → AllByRecursion (λ l. is_total l ≡ false) letters →
      Ordered (after me (Put to letters))
  plain letters no_counts no_totals = record {
    counts_up = λ rank. rw (over-none is_count me.log to rank letters no_counts) (ordered.counts_up rank);
    totals_up = λ rank. rw (over-none is_total me.log to rank letters no_totals) (ordered.totals_up rank);
    all_counts =
        ap length (over-none is_count me.log to 0 letters no_counts) ∙ ordered.all_counts
        ∙ sym (counts-none me.log (Put to letters) (none_any is_count letters no_counts));
    to_first = λ rank other. over-none is_count me.log to rank letters no_counts ∙ ordered.to_first rank other;
  }

  one_count : (l : Letter) → is_count l ≡ true → to ≡ 0 → round_of l ≡ counts me.log → Ordered (after me (Put to (l ∷ [])))
  one_count l is zero_takes number =
      let same : length (over is_count to me.log) ≡ length (over is_count 0 me.log) = ap (λ r. length (over is_count r me.log)) zero_takes in
      let here : nat_eq to 0 ≡ true = eq-eqb to 0 zero_takes in
      let grown : length (over is_count 0 (me.log ++ Put to (l ∷ []) ∷ [])) ≡ length (over is_count 0 me.log) + 1 =
      ap length (over-one is_count me.log to 0 l is ∙ rw here refl) ∙ length-append (over is_count 0 me.log) (l ∷ []) in
      record {
        counts_up = λ rank. numbered_one is_count me.log to l is (number ∙ sym ordered.all_counts ∙ sym same) rank (ordered.counts_up rank);
        totals_up = λ rank. rw (over-none is_total me.log to rank (l ∷ []) (not_both l is, tt)) (ordered.totals_up rank);
        all_counts = omega (arith, grown, ordered.all_counts, counts-one me.log (Put to (l ∷ [])) (rw is refl));
        to_first = λ rank other.
            let away : nat_eq to rank ≡ false = ne_eqb to rank (λ e. other (sym e ∙ zero_takes)) in
            over-one is_count me.log to rank l is ∙ rw (away, append-nil (over is_count rank me.log)) (ordered.to_first rank other);
      }

  one_total : (l : Letter) → is_count l ≡ false → is_total l ≡ true → round_of l ≡ totals to me.log → Ordered (after me (Put to (l ∷ [])))
  one_total l no_count_here is number = record {
    counts_up = λ rank. rw (over-none is_count me.log to rank (l ∷ []) (no_count_here, tt)) (ordered.counts_up rank);
    totals_up = λ rank. numbered_one is_total me.log to l is number rank (ordered.totals_up rank);
    all_counts =
        ap length (over-none is_count me.log to 0 (l ∷ []) (no_count_here, tt)) ∙ ordered.all_counts
        ∙ sym (counts-none me.log (Put to (l ∷ [])) (rw no_count_here refl));
    to_first = λ rank other. over-none is_count me.log to rank (l ∷ []) (no_count_here, tt) ∙ ordered.to_first rank other;
  }

  -- a Count goes to rank 0
  to_zero : (l : Letter) → is_count l ≡ true → wrong_control me to l ≡ false → to ≡ 0
  to_zero l is right =
      let links : ((nat_eq l.from me.here && nat_eq l.to 0) && nat_eq to 0) ≡ true = not-false _ (and_false_second _ _ is (or_false_first _ _ right)) in
      eqb-true to 0 (and_second _ _ links)

  next_number : (l : Letter) → is_count l ≡ true → count_early me to l ≡ false → round_of l ≡ counts me.log
  next_number l is early = eqb-true _ _ (not-false _ (or_false_first _ _ (and_false_second _ _ is early)))

  next_total : (l : Letter) → is_total l ≡ true → total_early me to l ≡ false → round_of l ≡ totals to me.log
  next_total l is early = eqb-true _ _ (not-false _ (or_false_first _ _ (and_false_second _ _ is early)))

  pub ordered_put : (letters : List Letter) → Unbroken me to letters → Ordered (after me (Put to letters))
  ordered_put [] ok = plain [] tt tt
  ordered_put (l ∷ []) ok = by_kind (is_count l) refl (is_total l) refl
    where
      by_kind : (count : Bool) → is_count l ≡ count → (total : Bool) → is_total l ≡ total → Ordered (after me (Put to (l ∷ [])))
      by_kind true is total _ =
          one_count l is (to_zero l is (or_false_first _ _ ok.control))
          (next_number l is (sym (count_early-first me to l) ∙ or_false_first _ _ ok.next_count))
      by_kind false is true total = one_total l is total (next_total l total (sym (total_early-first me to l) ∙ or_false_first _ _ ok.next_total))
      by_kind false is false total = plain (l ∷ []) (is, tt) (total, tt)
  ordered_put (l ∷ m ∷ more) ok =
      let none = no_control me to l m more ok.unmixed in
      plain (l ∷ m ∷ more) (no_count (l ∷ m ∷ more) none) (no_total (l ∷ m ∷ more) none)
