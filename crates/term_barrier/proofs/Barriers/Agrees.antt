-- A new barrier agrees with the empty log, and stays in agreement as the log gains takes and puts of data letters, and as
-- control letters are handed over.
use Rattle.std.proofs.Common.{◌≡◌, ℕ, ◌+◌, ◌≤◌, Bool, true, false, cond, ◌&&◌, nat_lt, le-ltb, ltb-true, List, [], ◌∷◌, ◌++◌, length, filter, refl, sym, ap, ◌∙◌, subst, append_assoc, append-nil, length-append, arith}
use Rattle.std.specs.Bool.{IsTrue}
use Rattle.std.specs.List.{AllByRecursion}
use Rattle.std.proofs.lemmas.Grind.{flat_map-append}
use Rattle.std.proofs.lemmas.List.{get_or-replicate}
use Rattle.std.proofs.lemmas.List.Elements.{filter-append, filter_map-append}
use Rattle.list_facts.proofs.Elements.{all_weaker}
use Rattle.list_facts.proofs.Filters.{filter_none}
use Rattle.msg_codec.specs.Control.{is_control, is_total}
use Rattle.msg_codec.specs.declared.letter.Letter.{Letter}
use Rattle.ygm_route.specs.declared.scheme.Scheme.{Scheme}
use Rattle.ygm_route.specs.Layout.{Shape}
use Rattle.world_core.specs.declared.entry.Entry.{Entry}
use Rattle.world_core.specs.declared.entry.Entry.TheVariants.{Put, Took}
use Rattle.world_core.specs.ControlRules.{is_counted}
use Rattle.world_core.specs.Counts.{counts, totals}
use Rattle.world_core.specs.Local.{Local, having_put, local_rank}
use Rattle.world_core.specs.Log.{IsPut, batches_put, letters_of, letters_put, letters_taken, letters_taken_by, put_to}
use Rattle.world_core.specs.Pairs.{is_data}
use Rattle.world_core.specs.Rounds.{barrier_start, ended_below, first_round, rounds_known, sums_told}
use Rattle.world_core.proofs.Counts.BeforeCount.{counts-append}
use Rattle.world_core.proofs.Counts.StaysFree.{no_counts}
use Rattle.world_core.proofs.Deeds.TwoKinds.{data_not_total}
use Rattle.world_core.proofs.Log.ByLink.{each_put}
use Rattle.comm_rank.specs.declared.turn.Turn.{Turn}
use Rattle.comm_rank.proofs.Agrees.AfterPuts.{takes_put_none}
use Rattle.comm_rank.specs.Fold.{Applies}
use Rattle.comm_rank.specs.Rank.{IsSameRank, Rank, local_of}
use Rattle.comm_rank.specs.Turns.{Turned}
use Rattle.term_barrier.specs.Barriers.{AreItsRounds, BarrierAgrees, BarrierState, IsHeard, control_letters, fresh_barrier, none_heard}
use Rattle.term_barrier.specs.Left.{gained}
use Rattle.term_barrier.proofs.CountedPlace.Left.{counted_early}
use Rattle.term_barrier.proofs.CountedPlace.Polled.{turn_counts}
use Rattle.term_barrier.proofs.Left.Grown.{more_known, sums_stay}
use Rattle.term_barrier.proofs.Left.SameSums.{first_round-same}
use Rattle.term_barrier.proofs.Left.Since.{first_grows}

-- ---- the empty log

one_of_none : (a b : Bool) → (a ≡ true → b ≡ true → ⊥) → 0 + cond (a && b) 1 0 ≡ 0
one_of_none true true none = absurd (none refl refl)
one_of_none true false none = refl
one_of_none false b none = refl

none_put_yet : (to : ℕ) → 0 + cond (nat_lt 0 to && nat_lt to 1) 1 0 ≡ 0
none_put_yet to = one_of_none (nat_lt 0 to) (nat_lt to 1) (λ above below. omega (arith, ltb-true 0 to above, ltb-true to 1 below))

hears_none : IsHeard none_heard []
hears_none = record { rounds_are = refl; last_is = λ some. absurd (omega (arith, some)); before_is = λ some. absurd (omega (arith, some)) }

pub agrees_fresh : (layout : Shape) (scheme : Scheme) (here rounds : ℕ) → BarrierAgrees (fresh_barrier layout here rounds) [] (local_rank layout scheme here [])
unfolding first_round ended_below
agrees_fresh layout scheme here rounds = record {
  layout = refl;
  here = refl;
  handed = [];
  in_order = refl;
  its_rounds = record {
    counts_are = refl;
    totals_are = λ to within. none_put_yet to;
    known_are = refl;
    first_is = refl;
    left_are = refl;
    last_is = λ some. absurd (omega (arith, some));
    heard_are = λ from within.
        subst (λ one. IsHeard one []) (sym (get_or-replicate layout.ranks from none_heard none_heard within)) hears_none;
  };
  outside = λ inside. le-ltb _ _ (omega arith);
}

-- ---- the log gains entries

controls-append : (log more : List Entry) → control_letters (log ++ more) ≡ control_letters log ++ control_letters more
controls-append log more =
    ap (filter is_control) (flat_map-append letters_taken_by log more)
    ∙ filter-append is_control (letters_taken log) (letters_taken more)

pub totals-append : (to : ℕ) (log more : List Entry) → totals to (log ++ more) ≡ totals to log + totals to more
totals-append to log more =
    ap (λ batches. length (filter is_total (letters_of batches))) (filter_map-append (put_to to) log more)
    ∙ ap (λ letters. length (filter is_total letters)) (flat_map-append (λ batch. batch) (batches_put to log) (batches_put to more))
    ∙ ap length (filter-append is_total (letters_of (batches_put to log)) (letters_of (batches_put to more)))
    ∙ length-append (filter is_total (letters_of (batches_put to log))) (filter is_total (letters_of (batches_put to more)))

-- where it took more, it is in no earlier barrier
start_stays : (me : Local) (more : List Entry) → barrier_start me.here me.log ≤ barrier_start me.here (me.log ++ more)
unfolding barrier_start
start_stays me more =
    let old = sums_told me.here me.log in
    let new = sums_told me.here (me.log ++ more) in
    let known = rounds_known me.here me.log in
    let same : first_round old known ≡ first_round new known = first_round-same old new known (sums_stay me more) in
    omega (arith, same, first_grows new known (rounds_known me.here (me.log ++ more)) (more_known me more))

module _ (barrier : BarrierState) (kept : List Letter) (me : Local) (more : List Entry)
    (no_counts : counts more ≡ 0) (no_totals : (to : ℕ) → totals to more ≡ 0) where
  same_counts : counts (me.log ++ more) ≡ counts me.log
  same_counts = omega (arith, counts-append me.log more, no_counts)

  same_totals : (to : ℕ) → totals to (me.log ++ more) ≡ totals to me.log
  same_totals to = omega (arith, totals-append to me.log more, no_totals to)

  pub agrees_gained : BarrierAgrees barrier kept me → BarrierAgrees barrier (kept ++ control_letters more) (gained me more)
  agrees_gained agrees = record {
    layout = agrees.layout;
    here = agrees.here;
    handed = agrees.handed;
    in_order =
        sym (append_assoc agrees.handed kept (control_letters more))
        ∙ ap (λ letters. letters ++ control_letters more) agrees.in_order ∙ sym (controls-append me.log more);
    its_rounds = record {
      counts_are = agrees.its_rounds.counts_are ∙ sym same_counts;
      totals_are = λ to within. agrees.its_rounds.totals_are to within ∙ sym (same_totals to);
      known_are = agrees.its_rounds.known_are;
      first_is = agrees.its_rounds.first_is;
      left_are = agrees.its_rounds.left_are;
      last_is = agrees.its_rounds.last_is;
      heard_are = agrees.its_rounds.heard_are;
    };
    outside = λ inside.
        let early = counted_early me (agrees.outside inside) in
        le-ltb _ _ (omega (arith, same_counts, early, start_stays me more));
  }

-- ---- a turn

-- takes put no Total, nor do puts of data letters
none_put : (to : ℕ) (log : List Entry) → AllByRecursion (λ l. is_total l ≡ false) (letters_put log) → totals to log ≡ 0
none_put to log none = ap length (filter_none is_total (letters_of (batches_put to log)) (each_put (λ l. is_total l ≡ false) log none to))

-- nor do puts take control letters
puts_taken : (placed : List Entry) → AllByRecursion IsPut placed → control_letters placed ≡ []
puts_taken [] puts = refl
puts_taken (Put to letters ∷ placed) puts = puts_taken placed puts.1
puts_taken (Took from letters ∷ placed) puts = absurd puts.0

-- a put of data letters
pub agrees_put : (barrier : BarrierState) (kept : List Letter) (me : Local) (to : ℕ) (letters : List Letter) → AllByRecursion (λ l. IsTrue (is_data l)) letters →
    BarrierAgrees barrier kept me → BarrierAgrees barrier kept (having_put me to letters)
agrees_put barrier kept me to letters data_alone agrees =
    let more : List Entry = Put to letters ∷ [] in
    let all : AllByRecursion (λ l. IsTrue (is_data l)) (letters_put more) = rw (append-nil letters) data_alone in
    subst (λ ls. BarrierAgrees barrier ls (having_put me to letters)) (append-nil kept)
    (agrees_gained barrier kept me more (no_counts more all)
    (λ rank. none_put rank more (all_weaker _ _ (letters_put more) data_not_total all)) agrees)

pub agrees_turned : {C : Type 0} (apply : Applies C) (old new : Rank C) (before after : List Entry) (turn : Turn) (barrier : BarrierState) (kept : List Letter)
    (turned : Turned apply old new before after turn) → IsSameRank old new →
    BarrierAgrees barrier kept (local_of old before) → BarrierAgrees barrier (kept ++ control_letters turned.taken) (local_of new after)
agrees_turned {C} apply old new before after turn barrier kept turned same agrees =
    let taken = turned.taken in
    let placed = turned.placed in
    let log_is : before ++ (taken ++ placed) ≡ after = sym (turned.gained.log ∙ append_assoc before taken placed) in
    let no_totals : (to : ℕ) → totals to (taken ++ placed) ≡ 0 = λ to.
    let none_taken : totals to taken ≡ 0 = none_put to taken (rw (takes_put_none taken turned.gained.takes) tt) in
    let none_placed : totals to placed ≡ 0 = none_put to placed (all_weaker _ _ (letters_put placed) data_not_total turned.gained.data_alone) in
    omega (arith, totals-append to taken placed, none_taken, none_placed) in
    let controls : control_letters (taken ++ placed) ≡ control_letters taken =
    controls-append taken placed ∙ ap (λ ls. control_letters taken ++ ls) (puts_taken placed turned.gained.puts) ∙ append-nil (control_letters taken) in
    let grown = agrees_gained barrier kept (local_of old before) (taken ++ placed) (turn_counts apply old new before after turn turned) no_totals agrees in
    let same_rank : local_of old after ≡ local_of new after = rw (same.layout, same.scheme, same.here) refl in
    subst (BarrierAgrees barrier (kept ++ control_letters taken)) same_rank
    (subst (λ log. BarrierAgrees barrier (kept ++ control_letters taken) (local_of old log)) log_is
    (subst (λ ls. BarrierAgrees barrier (kept ++ ls) (local_of old (before ++ (taken ++ placed)))) controls grown))

-- ---- letters are handed over

pub agrees_handed : (old new : BarrierState) (letters kept : List Letter) (me : Local) (agrees : BarrierAgrees old (letters ++ kept) me) →
    new.layout ≡ old.layout → new.here ≡ old.here → AreItsRounds new (agrees.handed ++ letters) me.log → (new.inside ≡ false → is_counted me ≡ false) →
    BarrierAgrees new kept me
agrees_handed old new letters kept me agrees layout here its_rounds outside = record {
  layout = layout ∙ agrees.layout;
  here = here ∙ agrees.here;
  handed = agrees.handed ++ letters;
  in_order = append_assoc agrees.handed letters kept ∙ agrees.in_order;
  its_rounds = its_rounds;
  outside = outside;
}
