-- A poll keeps the account of its rank and each counted place, and puts each Count at a counted place.
use Rattle.std.proofs.Common.{◌≡◌, ℕ, ◌+◌, ◌<◌, ◌≤◌, false, List, [], ◌∷◌, ◌++◌, length, refl, sym, ap, ◌∙◌, subst, append_assoc, append-nil, inl, inr, arith}
use Rattle.std.specs.List.{AllByRecursion}
use Rattle.std.proofs.lemmas.Bool.{cases_lt}
use Rattle.std.proofs.lemmas.List.{append_cancel_left}
use Rattle.list_facts.proofs.Elements.{all_append, all_first, all_second, all_weaker}
use Rattle.msg_codec.specs.declared.letter.Letter.{Letter}
use Rattle.world_core.specs.declared.entry.Entry.{Entry}
use Rattle.world_core.specs.declared.entry.Entry.TheVariants.{Put, Took}
use Rattle.world_core.specs.Counts.{before_count, counts}
use Rattle.world_core.specs.Log.{letters_put, letters_taken}
use Rattle.world_core.specs.Pairs.{arrived, is_data, of_pair}
use Rattle.world_core.proofs.Counts.BeforeCount.{before_all, before_grows, before_part, before_stands, counts-append}
use Rattle.world_core.proofs.Counts.StaysFree.{no_counts}
use Rattle.world_core.proofs.Deeds.TwoKinds.{control_not_data}
use Rattle.comm_rank.specs.declared.turn.Turn.{Turn}
use Rattle.comm_rank.specs.Fold.{Applies, fold_from}
use Rattle.comm_rank.specs.Rank.{IsSameRank, Rank, held_letters}
use Rattle.comm_rank.specs.Turns.{Turned}
use Rattle.comm_rank.proofs.Agrees.AfterPuts.{takes_put_none}
use Rattle.comm_rank.proofs.Running.TookBelow.{taken_append}
use Rattle.term_barrier.specs.Account.{Account, IsUpToDate, RankHandler, handler_of}
use Rattle.term_barrier.specs.CountedPlace.{AreCountedPlaces, IsCountedPlace, MovesNone}
use Rattle.term_barrier.specs.Cuts.{phase_start}
use Rattle.term_barrier.specs.Polls.{GainedControls, HasPolled, PutsControl}
use Rattle.term_barrier.proofs.Account.Turned.{account_turn, counted_turn, up_to_date_turn}
use Rattle.term_barrier.proofs.CountedPlace.Put.{account_unmoved, counted_put, counted_unmoved, moves_none}

-- ---- puts of control letters

controls_put : (controls : List Entry) → AllByRecursion PutsControl controls → AllByRecursion (λ l. is_data l ≡ false) (letters_put controls)
controls_put [] each = tt
controls_put (Put to letters ∷ controls) each =
    all_append _ letters (letters_put controls) (all_weaker _ _ letters control_not_data each.0) (controls_put controls each.1)
controls_put (Took from letters ∷ controls) each = absurd each.0

controls_taken : (controls : List Entry) → AllByRecursion PutsControl controls → letters_taken controls ≡ []
controls_taken [] each = refl
controls_taken (Put to letters ∷ controls) each = controls_taken controls each.1
controls_taken (Took from letters ∷ controls) each = absurd each.0

-- they move no letter of a rank
pub controls_move_none : (here : ℕ) (controls : List Entry) → AllByRecursion PutsControl controls → MovesNone here controls
controls_move_none here controls each = moves_none here controls (controls_put controls each) (rw (controls_taken controls each) tt)

-- The log before a Count that is one of these puts: the log that they were put to, and the first of them.
pub before_among : (q : ℕ) (log controls : List Entry) → counts log ≤ q →
    (first : List Entry) × (later : List Entry) × (first ++ later ≡ controls) × (before_count q (log ++ controls) ≡ log ++ first)
before_among q log controls least =
    let first = before_grows q log controls in
    let later = before_part q (log ++ controls) in
    let place : before_count q (log ++ controls) ≡ log ++ first.rest =
    sym (ap (λ es. es ++ first.rest) (sym (before_all q log least)) ∙ first.joined) in
    let log_is : (log ++ first.rest) ++ later.rest ≡ log ++ controls = ap (λ es. es ++ later.rest) (sym place) ∙ later.joined in
    (first.rest, later.rest, append_cancel_left log _ _ (sym (append_assoc log first.rest later.rest) ∙ log_is), place)

-- ---- a turn

pub turn_counts : {C : Type 0} (apply : Applies C) (old new : Rank C) (before after : List Entry) (turn : Turn) (turned : Turned apply old new before after turn) →
    counts (turned.taken ++ turned.placed) ≡ 0
turn_counts apply old new before after turn turned =
    let none_taken : counts turned.taken ≡ 0 = no_counts turned.taken (rw (takes_put_none turned.taken turned.gained.takes) tt) in
    let none_placed : counts turned.placed ≡ 0 = no_counts turned.placed turned.gained.data_alone in
    omega (arith, counts-append turned.taken turned.placed, none_taken, none_placed)

module _ {C : Type 0} (apply : Applies C) (start : C → C)
    (keeps : (c : C) (here ranks : ℕ) (l : Letter) → start (apply c here ranks l).0 ≡ start c)
    (old new : Rank C) (before after : List Entry) (turn : Turn)
    (up : IsUpToDate apply start old before) (same : IsSameRank old new) (turned : Turned apply old new before after turn) where
  abbrev gains : List Entry
  gains = turned.taken ++ turned.placed

  log_is : after ≡ before ++ gains
  log_is = turned.gained.log ∙ append_assoc before turned.taken turned.placed

  -- it puts no Count
  pub counts_turn : counts after ≡ counts before
  counts_turn = omega (arith, ap counts log_is, counts-append before gains, turn_counts apply old new before after turn turned)

  pub before_turn : (q : ℕ) → q < counts before → before_count q after ≡ before_count q before
  before_turn q put = ap (before_count q) log_is ∙ before_stands q before gains put

  pub places_turn : (own : ℕ → List Letter) (begin first : ℕ) → AreCountedPlaces (handler_of apply start old) own begin first (held_letters old) before →
      AreCountedPlaces (handler_of apply start new) own begin first (held_letters new) after
  places_turn own begin first places q since put =
      let was : q < counts before = omega (arith, put, counts_turn) in
      subst (λ es. IsCountedPlace (handler_of apply start new) own begin (length es) (held_letters new) after) (sym (before_turn q was))
      (counted_turn apply start keeps old new before after turn up same turned own begin (length (before_count q before)) (places q since was))

-- ---- a turn, and then puts of control letters

module _ {C : Type 0} (apply : Applies C) (start : C → C)
    (keeps : (c : C) (here ranks : ℕ) (l : Letter) → start (apply c here ranks l).0 ≡ start c)
    (old new : Rank C) (before middle after : List Entry) (turn : Turn)
    (up : IsUpToDate apply start old before) (same : IsSameRank old new) (turned : Turned apply old new before middle turn) (gained : GainedControls (held_letters new) middle after) where
  abbrev handler : RankHandler C
  handler = handler_of apply start new

  abbrev controls : List Entry
  controls = gained.controls

  moves : MovesNone new.here controls
  moves = controls_move_none new.here controls gained.each

  up_to_date_then : IsUpToDate apply start new after
  up_to_date_then =
      let up_middle = up_to_date_turn apply start keeps old new before middle turn up same turned in
      let arrived_is : arrived new.here after ≡ arrived new.here middle =
      ap (arrived new.here) gained.log ∙ taken_append new.here middle controls
      ∙ ap (λ ls. arrived new.here middle ++ ls) moves.takes ∙ append-nil (arrived new.here middle) in
      record {
        nothing_waits = up_middle.nothing_waits;
        contents = up_middle.contents ∙ ap (fold_from apply new.here new.layout.ranks (start new.contents)) (sym arrived_is);
      }

  account_middle : (own : ℕ → ℕ → List Letter) (cut : ℕ → ℕ) (phase : ℕ) → Account (handler_of apply start old) own cut phase (held_letters old) before →
      Account handler own cut phase (held_letters new) middle
  account_middle own cut phase account = account_turn apply start keeps old new before middle turn up same turned own cut phase account

  account_then : (own : ℕ → ℕ → List Letter) (cut : ℕ → ℕ) (phase : ℕ) → Account (handler_of apply start old) own cut phase (held_letters old) before →
      Account handler own cut phase (held_letters new) after
  account_then own cut phase account =
      subst (Account handler own cut phase (held_letters new)) (sym gained.log)
      (account_unmoved handler (held_letters new) middle controls moves own cut phase (account_middle own cut phase account))

  counted_then : (own : ℕ → List Letter) (begin place : ℕ) → IsCountedPlace (handler_of apply start old) own begin place (held_letters old) before →
      IsCountedPlace handler own begin place (held_letters new) after
  counted_then own begin place counted =
      subst (IsCountedPlace handler own begin place (held_letters new)) (sym gained.log)
      (counted_unmoved handler (held_letters new) middle controls moves own begin place
      (counted_turn apply start keeps old new before middle turn up same turned own begin place counted))

  -- ---- its Counts

  middle_counts : counts middle ≡ counts before
  middle_counts = counts_turn apply start keeps old new before middle turn up same turned

  after_counts : counts after ≡ counts before + counts controls
  after_counts = ap counts gained.log ∙ counts-append middle controls ∙ ap (λ n. n + counts controls) middle_counts

  -- the Counts of before are where they were
  stays : (q : ℕ) → q < counts before → before_count q after ≡ before_count q before
  stays q put =
      ap (before_count q) gained.log ∙ before_stands q middle controls (omega (arith, put, middle_counts))
      ∙ before_turn apply start keeps old new before middle turn up same turned q put

  -- and a new one is at a counted place
  count_then : (own : ℕ → ℕ → List Letter) (cut : ℕ → ℕ) (phase : ℕ) → Account (handler_of apply start old) own cut phase (held_letters old) before →
      (q : ℕ) → counts before ≤ q → q < counts after →
      IsCountedPlace handler (own phase) (phase_start cut phase) (length (before_count q after)) (held_letters new) after
  count_then own cut phase account q least put =
      let held = held_letters new in
      let among = before_among q middle controls (omega (arith, least, middle_counts)) in
      let first = among.0 in
      let later = among.1 in
      let parts : first ++ later ≡ controls = among.2 in
      let place : before_count q (middle ++ controls) ≡ middle ++ first = among.3 in
      let log_is : (middle ++ first) ++ later ≡ middle ++ controls = append_assoc middle first later ∙ ap (λ es. middle ++ es) parts in
      let each : AllByRecursion PutsControl (first ++ later) = subst (AllByRecursion PutsControl) (sym parts) gained.each in
      let none : held ≡ [] = gained.none_held (omega (arith, least, put, after_counts)) in
      let account_first : Account handler own cut phase held (middle ++ first) =
      account_unmoved handler held middle first (controls_move_none new.here first (all_first PutsControl first later each))
      own cut phase (account_middle own cut phase account) in
      let counted : IsCountedPlace handler (own phase) (phase_start cut phase) (length (middle ++ first)) held ((middle ++ first) ++ later) =
      counted_put handler held (middle ++ first) later (controls_move_none new.here later (all_second PutsControl first later each))
      own cut phase (λ to. ap (of_pair new.here to) none) account_first in
      subst (λ log. IsCountedPlace handler (own phase) (phase_start cut phase) (length (before_count q log)) held log) (sym gained.log)
      (subst (λ es. IsCountedPlace handler (own phase) (phase_start cut phase) (length es) held (middle ++ controls)) (sym place)
      (subst (IsCountedPlace handler (own phase) (phase_start cut phase) (length (middle ++ first)) held) log_is counted))

  places_then : (own : ℕ → ℕ → List Letter) (cut : ℕ → ℕ) (phase first : ℕ) → Account (handler_of apply start old) own cut phase (held_letters old) before →
      AreCountedPlaces (handler_of apply start old) (own phase) (phase_start cut phase) first (held_letters old) before →
      AreCountedPlaces handler (own phase) (phase_start cut phase) first (held_letters new) after
  places_then own cut phase first account places q since put = elim (cases_lt q (counts before)) [
    | inl earlier ↦
        subst (λ es. IsCountedPlace handler (own phase) (phase_start cut phase) (length es) (held_letters new) after) (sym (stays q earlier))
        (counted_then (own phase) (phase_start cut phase) (length (before_count q before)) (places q since earlier))
    | inr least ↦ count_then own cut phase account q least put
  ]

-- ---- a poll

module _ {C : Type 0} (apply : Applies C) (start : C → C)
    (keeps : (c : C) (here ranks : ℕ) (l : Letter) → start (apply c here ranks l).0 ≡ start c)
    (old new : Rank C) (before after : List Entry) (turn : Turn)
    (up : IsUpToDate apply start old before) (same : IsSameRank old new) (polled : HasPolled apply old new before after turn) where
  -- the rank after its turn
  same_rank : IsSameRank old polled.rank
  same_rank = let s = subst (IsSameRank old) polled.handed_over same in record { layout = s.layout; scheme = s.scheme; here = s.here; most = s.most }

  gained_rank : GainedControls (held_letters polled.rank) polled.log after
  gained_rank = subst (λ me. GainedControls (held_letters me) polled.log after) polled.handed_over polled.gained

  pub up_to_date_poll : IsUpToDate apply start new after
  up_to_date_poll =
      let u = up_to_date_then apply start keeps old polled.rank before polled.log after turn up same_rank polled.turned gained_rank in
      subst (λ me. IsUpToDate apply start me after) (sym polled.handed_over) (record { nothing_waits = u.nothing_waits; contents = u.contents })

  pub account_poll : (own : ℕ → ℕ → List Letter) (cut : ℕ → ℕ) (phase : ℕ) → Account (handler_of apply start old) own cut phase (held_letters old) before →
      Account (handler_of apply start new) own cut phase (held_letters new) after
  account_poll own cut phase account =
      subst (λ me. Account (handler_of apply start me) own cut phase (held_letters me) after) (sym polled.handed_over)
      (account_then apply start keeps old polled.rank before polled.log after turn up same_rank polled.turned gained_rank own cut phase account)

  pub counted_poll : (own : ℕ → List Letter) (begin place : ℕ) → IsCountedPlace (handler_of apply start old) own begin place (held_letters old) before →
      IsCountedPlace (handler_of apply start new) own begin place (held_letters new) after
  counted_poll own begin place counted =
      subst (λ me. IsCountedPlace (handler_of apply start me) own begin place (held_letters me) after) (sym polled.handed_over)
      (counted_then apply start keeps old polled.rank before polled.log after turn up same_rank polled.turned gained_rank own begin place counted)

  pub count_poll : (own : ℕ → ℕ → List Letter) (cut : ℕ → ℕ) (phase : ℕ) → Account (handler_of apply start old) own cut phase (held_letters old) before →
      (q : ℕ) → counts before ≤ q → q < counts after →
      IsCountedPlace (handler_of apply start new) (own phase) (phase_start cut phase) (length (before_count q after)) (held_letters new) after
  count_poll own cut phase account q least put =
      subst (λ me. IsCountedPlace (handler_of apply start me) (own phase) (phase_start cut phase) (length (before_count q after)) (held_letters me) after)
      (sym polled.handed_over)
      (count_then apply start keeps old polled.rank before polled.log after turn up same_rank polled.turned gained_rank own cut phase account q least put)

  pub places_poll : (own : ℕ → ℕ → List Letter) (cut : ℕ → ℕ) (phase first : ℕ) → Account (handler_of apply start old) own cut phase (held_letters old) before →
      AreCountedPlaces (handler_of apply start old) (own phase) (phase_start cut phase) first (held_letters old) before →
      AreCountedPlaces (handler_of apply start new) (own phase) (phase_start cut phase) first (held_letters new) after
  places_poll own cut phase first account places =
      subst (λ me. AreCountedPlaces (handler_of apply start me) (own phase) (phase_start cut phase) first (held_letters me) after) (sym polled.handed_over)
      (places_then apply start keeps old polled.rank before polled.log after turn up same_rank polled.turned gained_rank own cut phase first account places)
