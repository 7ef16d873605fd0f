-- A barrier that was handed all that its rank keeps, within its room, left one barrier at most, and if so the rank left it.
use Rattle.std.proofs.Common.{◌≡◌, suc, pred, ◌+◌, ◌-◌, ◌<◌, ◌≤◌, ◌⊎◌, Bool, true, false, cond, ◌&&◌, nat_eq, le-ltb, List, [], ◌∷◌, length, map, refl, sym, ap, ◌∙◌, subst, inl, inr, arith}
use Rattle.std.specs.List.{filter}
use Rattle.msg_codec.specs.Control.{is_count}
use Rattle.msg_codec.specs.declared.letter.Letter.{Letter}
use Rattle.world_core.specs.Counts.{is_total_to}
use Rattle.world_core.specs.Local.{Local}
use Rattle.world_core.specs.Modest.{IsModest}
use Rattle.world_core.specs.Rounds.{Sums}
use Rattle.term_barrier.specs.Barriers.{BarrierAgrees, BarrierState, HasRoom, InRange, is_last_round, sums_of, totals_heard, with_count, with_letters, with_total}
use Rattle.term_barrier.specs.Left.{HasLeft}
use Rattle.term_barrier.proofs.Barriers.Handed.{agrees_handed_all, by_kind, with_letters_keeps, with_letters_length}
use Rattle.term_barrier.proofs.Barriers.Room.{room}
use Rattle.term_barrier.proofs.Barriers.Rounds.{first_is, just_left}

-- the Totals among letters, where the first is one or isn't
abbrev told : BarrierState → Letter → List Letter → Bool → List Sums
told barrier l letters total = map sums_of (cond total (l ∷ filter (is_total_to barrier.here) letters) (filter (is_total_to barrier.here) letters))

-- it knows one round more by each Total
pub with_letters_known : (barrier : BarrierState) (letters : List Letter) →
    (with_letters barrier letters).known ≡ barrier.known + length (totals_heard barrier.here letters)
with_letters_known barrier [] = omega arith
with_letters_known barrier (l ∷ letters) = by (λ now. with_letters_known now letters) (is_total_to barrier.here l) (is_count l && nat_eq l.to 0)
  where
    by : ((now : BarrierState) → (with_letters now letters).known ≡ now.known + length (totals_heard now.here letters)) → (total count : Bool) →
        (with_letters (by_kind barrier l total count) letters).known ≡ barrier.known + length (told barrier l letters total)
    by later true count = omega (arith, later (with_total barrier (sums_of l)))
    by later false true = later (with_count barrier l.from (sums_of l))
    by later false false = later barrier

-- its rounds are the same
record SameRounds (old new : BarrierState) : Type 0 where
  left : new.left ≡ old.left
  known : new.known ≡ old.known
  first : new.first ≡ old.first

none_told : (barrier : BarrierState) (letters : List Letter) → length (totals_heard barrier.here letters) ≡ 0 →
    SameRounds barrier (with_letters barrier letters)
none_told barrier [] none = record { left = refl; known = refl; first = refl }
none_told barrier (l ∷ letters) none = by (λ now. none_told now letters) (is_total_to barrier.here l) (is_count l && nat_eq l.to 0) none
  where
    by : ((now : BarrierState) → length (totals_heard now.here letters) ≡ 0 → SameRounds now (with_letters now letters)) → (total count : Bool) →
        length (told barrier l letters total) ≡ 0 → SameRounds barrier (with_letters (by_kind barrier l total count) letters)
    by later true count h = absurd (omega (arith, h))
    by later false true h =
        let same = later (with_count barrier l.from (sums_of l)) h in
        record { left = same.left; known = same.known; first = same.first }
    by later false false h = later barrier h

-- it left no barrier, or one, and knows one round more
abbrev pub LeftOnce : BarrierState → BarrierState → Type 0
LeftOnce old new = (new.left ≡ old.left) ⊎ ((new.left ≡ old.left + 1) × (new.first ≡ new.known) × (new.known ≡ old.known + 1))

one_total : (barrier : BarrierState) (sums : Sums) (new : BarrierState) → SameRounds (with_total barrier sums) new → LeftOnce barrier new
one_total barrier sums new same = by (is_last_round barrier sums) same.left same.first
  where
    by : (b : Bool) → new.left ≡ cond b (barrier.left + 1) barrier.left → new.first ≡ cond b (barrier.known + 1) barrier.first → LeftOnce barrier new
    by true left first = inr (left, first ∙ sym same.known, same.known)
    by false left first = inl left

one_at_most : (barrier : BarrierState) (letters : List Letter) → length (totals_heard barrier.here letters) ≤ 1 →
    LeftOnce barrier (with_letters barrier letters)
one_at_most barrier [] few = inl refl
one_at_most barrier (l ∷ letters) few = by (λ now. one_at_most now letters) (is_total_to barrier.here l) (is_count l && nat_eq l.to 0) few
  where
    by : ((now : BarrierState) → length (totals_heard now.here letters) ≤ 1 → LeftOnce now (with_letters now letters)) → (total count : Bool) →
        length (told barrier l letters total) ≤ 1 → LeftOnce barrier (with_letters (by_kind barrier l total count) letters)
    by later true count h =
        let now : BarrierState = with_total barrier (sums_of l) in
        one_total barrier (sums_of l) (with_letters now letters) (none_told now letters (omega (arith, h)))
    by later false true h = later (with_count barrier l.from (sums_of l)) h
    by later false false h = later barrier h

module _ (barrier : BarrierState) (kept : List Letter) (range : InRange barrier) (has_room : HasRoom barrier kept) where
  pub left_once : LeftOnce barrier (with_letters barrier kept)
  left_once = one_at_most barrier kept (omega (arith, has_room.known, range.one_ahead))

  abbrev now : BarrierState
  now = with_letters barrier kept

  few_left : LeftOnce barrier now → barrier.known ≤ now.known → now.left ≤ now.known
  few_left (inl same) more = omega (arith, same, more, range.left_few)
  few_left (inr one) more = omega (arith, one.0, one.2, range.left_few)

  pub in_range : InRange (with_letters barrier kept)
  in_range =
      let keep = with_letters_keeps barrier kept in
      let known = with_letters_known barrier kept in
      let counted : now.counted ≡ barrier.counted = ap (λ b. b.counted) keep in
      let ranks : now.layout.ranks ≡ barrier.layout.ranks = ap (λ b. b.layout.ranks) keep in
      let rounds : now.rounds ≡ barrier.rounds = ap (λ b. b.rounds) keep in
      let over : now.over ≡ barrier.over = ap (λ b. b.over) keep in
      let next : now.next ≡ barrier.next = ap (λ b. b.next) keep in
      let here : now.here ≡ barrier.here = ap (λ b. b.here) keep in
      record {
        within = omega (arith, here, ranks, range.within);
        some = omega (arith, rounds, range.some);
        few = omega (arith, rounds, range.few);
        counted_few = omega (arith, counted, rounds, range.counted_few);
        counted_first = omega (arith, counted, known, has_room.known);
        one_ahead = omega (arith, counted, known, range.one_ahead);
        left_few = few_left left_once (omega (arith, known));
        over_few = omega (arith, over, counted, range.over_few);
        next_within = (omega (arith, next, range.next_within.0), omega (arith, next, ranks, range.next_within.1));
        all = with_letters_length barrier kept ∙ range.all ∙ sym ranks;
      }

-- where it counted no round of a barrier that begins after all that it knows, its rank may be outside
pub agrees_outside : (barrier : BarrierState) (me : Local) → IsModest me → BarrierAgrees barrier [] me →
    barrier.first ≡ barrier.known → barrier.counted ≤ barrier.known → BarrierAgrees (record barrier { inside = false }) [] me
agrees_outside barrier me modest agrees first known = record {
  layout = agrees.layout;
  here = agrees.here;
  handed = agrees.handed;
  in_order = agrees.in_order;
  its_rounds = record {
    counts_are = agrees.its_rounds.counts_are;
    totals_are = agrees.its_rounds.totals_are;
    known_are = agrees.its_rounds.known_are;
    first_is = agrees.its_rounds.first_is;
    left_are = agrees.its_rounds.left_are;
    last_is = agrees.its_rounds.last_is;
    heard_are = agrees.its_rounds.heard_are;
  };
  outside = λ inside. le-ltb _ _ (omega (arith, agrees.its_rounds.counts_are, first, known, first_is barrier me modest agrees));
}

module _ (barrier : BarrierState) (kept : List Letter) (me : Local) (range : InRange barrier) (modest : IsModest me)
    (agrees : BarrierAgrees barrier kept me) (more : barrier.left < (with_letters barrier kept).left) where
  abbrev after : BarrierState
  after = with_letters barrier kept

  handed : BarrierAgrees after [] me
  handed = agrees_handed_all barrier kept me range agrees

  one : (after.left ≡ barrier.left + 1) × (after.first ≡ after.known) × (after.known ≡ barrier.known + 1)
  one = elim (left_once barrier kept range (room barrier kept me range modest agrees)) [
    | inl same ↦ absurd (omega (arith, same, more))
    | inr once ↦ once
  ]

  pub left_outside : BarrierAgrees (record (with_letters barrier kept) { inside = false }) [] me
  left_outside =
      let counted : after.counted ≡ barrier.counted = ap (λ b. b.counted) (with_letters_keeps barrier kept) in
      agrees_outside after me modest handed one.1 (omega (arith, counted, one.2, range.one_ahead))

  pub left_now : HasLeft me barrier.left ((with_letters barrier kept).known - 1)
  left_now =
      let round : after.known ≡ suc (after.known - 1) = omega (arith, one.2) in
      let number : after.left ≡ suc barrier.left = omega (arith, one.0) in
      subst (λ left. HasLeft me left (after.known - 1)) (ap pred number) (just_left after me modest handed (after.known - 1) round one.1)
