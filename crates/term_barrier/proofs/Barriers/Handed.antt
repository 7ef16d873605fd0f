-- The rounds of a barrier, after it was handed letters.
use Rattle.std.proofs.Common.{◌≡◌, ◌≢◌, ℕ, zero, suc, pred, ◌+◌, ◌-◌, ◌<◌, Bool, true, false, cond, ◌&&◌, nat_eq, eqb-true, eq-eqb, List, [], ◌∷◌, ◌++◌, length, map, set, get_or, refl, sym, ap, ◌∙◌, subst, append_assoc, append-nil, length-append, length-set, get_or-set_other, get_or-set_same, arith}
use Rattle.std.specs.List.{filter}
use Rattle.std.proofs.Math.ListN.{get_or-append}
use Rattle.std.proofs.Math.Seq.{get_or-append_seam}
use Rattle.std.proofs.lemmas.Bool.{false_from_ne_true, false≢true}
use Rattle.std.proofs.lemmas.List.{map-append}
use Rattle.std.proofs.lemmas.List.Elements.{filter-append}
use Rattle.list_facts.proofs.Tests.{and_first, and_second}
use Rattle.msg_codec.specs.Control.{is_count, is_total}
use Rattle.msg_codec.specs.declared.letter.Letter.{Letter}
use Rattle.world_core.specs.declared.entry.Entry.{Entry}
use Rattle.world_core.specs.Counts.{is_count_of, is_total_to}
use Rattle.world_core.specs.Local.{Local}
use Rattle.world_core.specs.Rounds.{Sums, ended_below, ends, first_round}
use Rattle.world_core.proofs.Deeds.Unmixed.{not_both}
use Rattle.world_core.proofs.Rounds.Stepwise.{ended_next, ends_now, first_next}
use Rattle.term_barrier.specs.declared.heard.Heard.{Heard}
use Rattle.term_barrier.specs.Barriers.{AreItsRounds, BarrierAgrees, BarrierState, InRange, IsHeard, counts_heard, heard_more, heard_of, is_last_round, no_sums, none_heard, sums_heard, sums_of, totals_heard, with_count, with_letter, with_letters, with_total}
use Rattle.term_barrier.proofs.Left.SameSums.{ended_below-same, first_round-same}

-- ---- one letter more

kept-append : (p : Letter → Bool) (letters : List Letter) (l : Letter) →
    map sums_of (filter p (letters ++ l ∷ [])) ≡ map sums_of (filter p letters) ++ map sums_of (cond (p l) (l ∷ []) [])
kept-append p letters l = ap (map sums_of) (filter-append p letters (l ∷ [])) ∙ map-append sums_of (filter p letters) (cond (p l) (l ∷ []) [])

kept_more : (p : Letter → Bool) (letters : List Letter) (l : Letter) → p l ≡ true →
    map sums_of (filter p (letters ++ l ∷ [])) ≡ map sums_of (filter p letters) ++ sums_of l ∷ []
kept_more p letters l is = kept-append p letters l ∙ rw is refl

kept_same : (p : Letter → Bool) (letters : List Letter) (l : Letter) → p l ≡ false →
    map sums_of (filter p (letters ++ l ∷ [])) ≡ map sums_of (filter p letters)
kept_same p letters l is = kept-append p letters l ∙ rw is (append-nil (map sums_of (filter p letters)))

got_last : (xs : List Sums) (x : Sums) (q : ℕ) → q ≡ length xs → get_or (xs ++ x ∷ []) q no_sums ≡ x
got_last xs x q is = ap (λ n. get_or (xs ++ x ∷ []) n no_sums) is ∙ get_or-append_seam xs x [] no_sums

if_same : {a b : Bool} → a ≡ b → (x x' y y' : ℕ) → x ≡ x' → y ≡ y' → cond a x y ≡ cond b x' y'
if_same {a} {b} h x x' y y' e f = rw (h, e, f) refl

plus_if : (b : Bool) (n : ℕ) → cond b (n + 1) (n + 0) ≡ n + cond b 1 0
plus_if true n = refl
plus_if false n = refl

pred_less : (n : ℕ) → 0 < n → pred n < n
pred_less zero some = absurd (omega (arith, some))
pred_less (suc n) some = omega arith

-- ---- a Total

module _ (barrier : BarrierState) (letters : List Letter) (log : List Entry) (l : Letter) (is : is_total_to barrier.here l ≡ true)
    (its : AreItsRounds barrier letters log) where
  abbrev before : ℕ → Sums
  before = sums_heard barrier.here letters

  abbrev now : ℕ → Sums
  now = sums_heard barrier.here (letters ++ l ∷ [])

  heard : totals_heard barrier.here (letters ++ l ∷ []) ≡ totals_heard barrier.here letters ++ sums_of l ∷ []
  heard = kept_more (is_total_to barrier.here) letters l is

  stays : (q : ℕ) → q < barrier.known → before q ≡ now q
  stays q lt = sym (ap (λ xs. get_or xs q no_sums) heard ∙ get_or-append (totals_heard barrier.here letters) (sums_of l ∷ []) no_sums q (omega (arith, lt, its.known_are)))

  this : sums_of l ≡ now barrier.known
  this = sym (ap (λ xs. get_or xs barrier.known no_sums) heard ∙ got_last (totals_heard barrier.here letters) (sums_of l) barrier.known its.known_are)

  first_now : barrier.first ≡ first_round now barrier.known
  first_now = its.first_is ∙ first_round-same before now barrier.known stays

  last_round : is_last_round barrier (sums_of l) ≡ ends now barrier.known
  last_round =
      ends_now now barrier.known barrier.first barrier.last (sums_of l) first_now
      (λ some. its.last_is some ∙ stays (pred barrier.known) (pred_less barrier.known some)) this

  left_now : ended_below now barrier.known ≡ barrier.left
  left_now = sym (its.left_are ∙ ended_below-same before now barrier.known stays)

  no_count : (from : ℕ) → is_count_of from l ≡ false
  no_count from = false_from_ne_true (is_count_of from l) (λ count.
      let total : is_total l ≡ true = and_first _ _ (and_first _ _ is) in
      absurd (false≢true (sym (not_both l (and_first _ _ (and_first _ _ count))) ∙ total)))

  rounds_total : AreItsRounds (with_total barrier (sums_of l)) (letters ++ l ∷ []) log
  rounds_total = record {
    counts_are = its.counts_are;
    totals_are = its.totals_are;
    known_are = omega (arith, its.known_are, ap length heard, length-append (totals_heard barrier.here letters) (sums_of l ∷ []));
    first_is = if_same last_round (barrier.known + 1) (barrier.known + 1) barrier.first (first_round now barrier.known) refl first_now ∙ sym (first_next now barrier.known);
    left_are =
        if_same last_round (barrier.left + 1) (ended_below now barrier.known + 1) barrier.left (ended_below now barrier.known + 0)
        (ap (λ n. n + 1) (sym left_now)) (omega (arith, left_now)) ∙ plus_if (ends now barrier.known) (ended_below now barrier.known) ∙ sym (ended_next now barrier.known);
    last_is = λ some. this ∙ ap now (omega arith);
    heard_are = λ from within.
        subst (IsHeard (heard_of barrier from)) (sym (kept_same (is_count_of from) letters l (no_count from))) (its.heard_are from within);
  }

-- ---- a letter that is no Total to this rank

hears_more : (one : Heard) (xs : List Sums) (x : Sums) → IsHeard one xs → IsHeard (heard_more one x) (xs ++ x ∷ [])
hears_more one xs x is =
    let longer : length (xs ++ x ∷ []) ≡ length xs + 1 = length-append xs (x ∷ []) in
    record {
      rounds_are = omega (arith, is.rounds_are, longer);
      last_is = λ some. sym (got_last xs x (length (xs ++ x ∷ []) - 1) (omega (arith, longer)));
      before_is = λ some.
          let place : length xs - 1 ≡ length (xs ++ x ∷ []) - 2 = omega (arith, longer) in
          is.last_is (omega (arith, some, longer))
          ∙ sym (get_or-append xs (x ∷ []) no_sums (length xs - 1) (omega (arith, some, longer)))
          ∙ ap (λ q. get_or (xs ++ x ∷ []) q no_sums) place;
    }

-- what was heard of a rank, after one more Count of some rank
same_place : (xs : List Heard) (i j : ℕ) (x : Heard) → i ≡ j → j < length xs → get_or (set xs i x) j none_heard ≡ x
same_place xs i j x same within = ap (λ k. get_or (set xs k x) j none_heard) same ∙ get_or-set_same xs j x none_heard within

module _ (barrier : BarrierState) (letters : List Letter) (log : List Entry) (l : Letter) (no_total : is_total_to barrier.here l ≡ false)
    (its : AreItsRounds barrier letters log) where
  same_totals : totals_heard barrier.here (letters ++ l ∷ []) ≡ totals_heard barrier.here letters
  same_totals = kept_same (is_total_to barrier.here) letters l no_total

  abbrev heard_before : ℕ → Sums
  heard_before = sums_heard barrier.here letters

  abbrev heard_now : ℕ → Sums
  heard_now = sums_heard barrier.here (letters ++ l ∷ [])

  same_heard : (q : ℕ) → heard_before q ≡ heard_now q
  same_heard q = ap (λ xs. get_or xs q no_sums) (sym same_totals)

  abbrev HearsAll : List Heard → Type 0
  HearsAll new = (from : ℕ) → from < barrier.layout.ranks → IsHeard (get_or new from none_heard) (counts_heard from (letters ++ l ∷ []))

  rounds_other : (new : List Heard) → HearsAll new → AreItsRounds (record barrier { heard = new }) (letters ++ l ∷ []) log
  rounds_other new all = record {
    counts_are = its.counts_are;
    totals_are = its.totals_are;
    known_are = its.known_are ∙ ap length (sym same_totals);
    first_is = its.first_is ∙ first_round-same heard_before heard_now barrier.known (λ q lt. same_heard q);
    left_are = its.left_are ∙ ended_below-same heard_before heard_now barrier.known (λ q lt. same_heard q);
    last_is = λ some. its.last_is some ∙ same_heard (pred barrier.known);
    heard_are = all;
  }

  -- a rank of which it is no Count
  stays_heard : (from : ℕ) → from < barrier.layout.ranks → is_count_of from l ≡ false →
      IsHeard (heard_of barrier from) (counts_heard from (letters ++ l ∷ []))
  stays_heard from within none =
      subst (IsHeard (heard_of barrier from)) (sym (kept_same (is_count_of from) letters l none)) (its.heard_are from within)

  -- a Count
  module _ (is : (is_count l && nat_eq l.to 0) ≡ true) (all : length barrier.heard ≡ barrier.layout.ranks) where
    abbrev one_more : List Heard
    one_more = set barrier.heard l.from (heard_more (heard_of barrier l.from) (sums_of l))

    hears_this : (from : ℕ) → from < barrier.layout.ranks → (b : Bool) → nat_eq l.from from ≡ b →
        IsHeard (get_or one_more from none_heard) (counts_heard from (letters ++ l ∷ []))
    hears_this from within true here =
        let same : l.from ≡ from = eqb-true l.from from here in
        let count : is_count_of from l ≡ true = rw (and_first (is_count l) _ is, here, and_second (is_count l) _ is) refl in
        let more : Heard = heard_more (heard_of barrier l.from) (sums_of l) in
        let got : get_or one_more from none_heard ≡ heard_more (heard_of barrier from) (sums_of l) =
        same_place barrier.heard l.from from more same (omega (arith, within, all))
        ∙ ap (λ rank. heard_more (heard_of barrier rank) (sums_of l)) same in
        subst (λ one. IsHeard one (counts_heard from (letters ++ l ∷ []))) (sym got)
        (subst (IsHeard (heard_more (heard_of barrier from) (sums_of l))) (sym (kept_more (is_count_of from) letters l count))
        (hears_more (heard_of barrier from) (counts_heard from letters) (sums_of l) (its.heard_are from within)))
    hears_this from within false other =
        let none : is_count_of from l ≡ false = false_from_ne_true (is_count_of from l) (λ count.
        absurd (false≢true (sym other ∙ and_second (is_count l) (nat_eq l.from from) (and_first _ _ count)))) in
        let apart : from ≢ l.from = λ same. absurd (false≢true (sym other ∙ eq-eqb l.from from (sym same))) in
        subst (λ one. IsHeard one (counts_heard from (letters ++ l ∷ [])))
        (sym (get_or-set_other barrier.heard l.from from (heard_more (heard_of barrier l.from) (sums_of l)) none_heard apart))
        (stays_heard from within none)

    rounds_count : AreItsRounds (with_count barrier l.from (sums_of l)) (letters ++ l ∷ []) log
    rounds_count = rounds_other one_more (λ from within. hears_this from within (nat_eq l.from from) refl)

  -- any other letter
  rounds_neither : (is_count l && nat_eq l.to 0) ≡ false → AreItsRounds barrier (letters ++ l ∷ []) log
  rounds_neither neither = rounds_other barrier.heard (λ from within. stays_heard from within (false_from_ne_true (is_count_of from l) (λ count.
      let first = and_first (is_count l && nat_eq l.from from) (nat_eq l.to 0) count in
      let both : (is_count l && nat_eq l.to 0) ≡ true =
      rw (and_first (is_count l) (nat_eq l.from from) first, and_second (is_count l && nat_eq l.from from) (nat_eq l.to 0) count) refl in
      absurd (false≢true (sym neither ∙ both)))))

-- ---- letters

abbrev pub by_kind : BarrierState → Letter → Bool → Bool → BarrierState
by_kind barrier l total count = cond total (with_total barrier (sums_of l)) (cond count (with_count barrier l.from (sums_of l)) barrier)

pub rounds_letter : (barrier : BarrierState) (letters : List Letter) (log : List Entry) (l : Letter) → length barrier.heard ≡ barrier.layout.ranks →
    AreItsRounds barrier letters log → AreItsRounds (with_letter barrier l) (letters ++ l ∷ []) log
rounds_letter barrier letters log l all its = by (is_total_to barrier.here l) (is_count l && nat_eq l.to 0) refl refl
  where
    by : (total count : Bool) → is_total_to barrier.here l ≡ total → (is_count l && nat_eq l.to 0) ≡ count →
        AreItsRounds (by_kind barrier l total count) (letters ++ l ∷ []) log
    by true count is c = rounds_total barrier letters log l is its
    by false true other is = rounds_count barrier letters log l other its is all
    by false false other neither = rounds_neither barrier letters log l other its neither

-- what was heard, in a barrier that is otherwise another
abbrev pub hearing : BarrierState → BarrierState → BarrierState
hearing old new = record old { left = new.left; known = new.known; first = new.first; last = new.last; heard = new.heard }

letter_keeps : (barrier : BarrierState) (l : Letter) → with_letter barrier l ≡ hearing barrier (with_letter barrier l)
letter_keeps barrier l = by (is_total_to barrier.here l) (is_count l && nat_eq l.to 0)
  where
    by : (total count : Bool) → by_kind barrier l total count ≡ hearing barrier (by_kind barrier l total count)
    by true count = refl
    by false true = refl
    by false false = refl

letter_length : (barrier : BarrierState) (l : Letter) → length (with_letter barrier l).heard ≡ length barrier.heard
letter_length barrier l = by (is_total_to barrier.here l) (is_count l && nat_eq l.to 0)
  where
    by : (total count : Bool) → length (by_kind barrier l total count).heard ≡ length barrier.heard
    by true count = refl
    by false true = length-set barrier.heard l.from (heard_more (heard_of barrier l.from) (sums_of l))
    by false false = refl

-- All else stays the same.
pub with_letters_keeps : (barrier : BarrierState) (letters : List Letter) →
    with_letters barrier letters ≡ hearing barrier (with_letters barrier letters)
with_letters_keeps barrier [] = refl
with_letters_keeps barrier (l ∷ letters) =
    let now : BarrierState = with_letters (with_letter barrier l) letters in
    with_letters_keeps (with_letter barrier l) letters ∙ ap (λ old. hearing old now) (letter_keeps barrier l)

pub with_letters_length : (barrier : BarrierState) (letters : List Letter) → length (with_letters barrier letters).heard ≡ length barrier.heard
with_letters_length barrier [] = refl
with_letters_length barrier (l ∷ letters) = with_letters_length (with_letter barrier l) letters ∙ letter_length barrier l

pub rounds_letters : (barrier : BarrierState) (letters more : List Letter) (log : List Entry) → length barrier.heard ≡ barrier.layout.ranks →
    AreItsRounds barrier letters log → AreItsRounds (with_letters barrier more) (letters ++ more) log
rounds_letters barrier letters [] log all its = subst (λ ls. AreItsRounds barrier ls log) (sym (append-nil letters)) its
rounds_letters barrier letters (l ∷ more) log all its =
    let now : BarrierState = with_letter barrier l in
    let ranks : now.layout.ranks ≡ barrier.layout.ranks = ap (λ b. b.layout.ranks) (letter_keeps barrier l) in
    subst (λ ls. AreItsRounds (with_letters now more) ls log) (append_assoc letters (l ∷ []) more)
    (rounds_letters now (letters ++ l ∷ []) more log (letter_length barrier l ∙ all ∙ sym ranks) (rounds_letter barrier letters log l all its))

-- it was handed all that its rank keeps
pub agrees_handed_all : (barrier : BarrierState) (kept : List Letter) (me : Local) → InRange barrier → BarrierAgrees barrier kept me →
    BarrierAgrees (with_letters barrier kept) [] me
agrees_handed_all barrier kept me range agrees =
    let keep = with_letters_keeps barrier kept in
    record {
      layout = ap (λ b. b.layout) keep ∙ agrees.layout;
      here = ap (λ b. b.here) keep ∙ agrees.here;
      handed = agrees.handed ++ kept;
      in_order = append-nil (agrees.handed ++ kept) ∙ agrees.in_order;
      its_rounds = rounds_letters barrier agrees.handed kept me.log range.all agrees.its_rounds;
      outside = λ inside. agrees.outside (sym (ap (λ b. b.inside) keep) ∙ inside);
    }
