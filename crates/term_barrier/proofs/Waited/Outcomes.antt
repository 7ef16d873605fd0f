-- Polls that waited, one after another, and how they end: the rank leaves its barrier, or a poll fails.
use Rattle.std.proofs.Common.{◌≡◌, ℕ, ◌+◌, true, false, List, [], ◌++◌, refl, sym, ap, ◌∙◌, subst, arith}
use Rattle.list_facts.specs.Prefix.{IsPrefix}
use Rattle.list_facts.proofs.Prefix.{prefix_refl, prefix_trans}
use Rattle.msg_codec.specs.declared.letter.Letter.{Letter}
use Rattle.world_core.specs.Post.{PostState, SameStops}
use Rattle.comm_rank.specs.Fold.{Applies}
use Rattle.comm_rank.specs.Rank.{Rank, Worked, local_of}
use Rattle.comm_rank.specs.Turns.{Advanced, KeepsPost}
use Rattle.comm_rank.proofs.Rank.Same.{same_rank_more, same_rank_none, worked_same}
use Rattle.comm_rank.proofs.Running.TookBelow.{advanced_more, advanced_none}
use Rattle.term_barrier.specs.declared.polled.Polled.{Polled}
use Rattle.term_barrier.specs.declared.polled.Polled.TheVariants.{Left, Waiting as Waits}
use Rattle.term_barrier.specs.declared.polled.Waiting.{Waiting}
use Rattle.term_barrier.specs.Barriers.{BarrierState}
use Rattle.term_barrier.specs.Left.{HasLeft}
use Rattle.term_barrier.specs.Polls.{BarrierEnded, HasPolled, HasWaited, IsSameBarrier, PollEnded, PolledLeft, PolledWaiting, PutAllBeforeCounts, Stands}
use Rattle.term_barrier.proofs.Waited.Counted.{counted_more}
use Rattle.term_barrier.proofs.Waited.Kept.{keeps_post_none, keeps_post_then, same_barrier_none, same_barrier_then}
use Rattle.term_barrier.proofs.Waited.Polled.{polled_advances, polled_grows, run_by_poll}

-- before the first poll
pub waited_first : {C : Type 0} (apply : Applies C) (start : C → C) (barrier : BarrierState) (me : Rank C) (post : PostState) →
    barrier.inside ≡ true → me.stopped ≡ false → Stands apply start barrier me post →
    HasWaited apply start barrier barrier me me post post
waited_first apply start barrier me post inside going stands = record {
  run = [];
  advanced = advanced_none apply me (post.log me.here);
  grown = prefix_refl (post.log me.here);
  none_waited = stands.belongs.agrees.nothing_waits;
  counted = λ q since put. absurd (omega (arith, since, put));
  stands = stands;
  same = same_barrier_none barrier;
  waits = record { same_left = refl; inside = inside };
  going = going;
  same_rank = same_rank_none me;
  keeps = keeps_post_none me post;
  stops = λ rank. refl;
  halts = refl;
}

-- ---- the rank enters

-- a barrier that its rank is inside stands where it stood
pub stands_inside : {C : Type 0} (apply : Applies C) (start : C → C) (barrier : BarrierState) (me : Rank C) (post : PostState) →
    Stands apply start barrier me post → Stands apply start (record barrier { inside = true }) me post
stands_inside apply start barrier me post stands =
    let agrees = stands.agrees in
    let its = agrees.its_rounds in
    record {
      belongs = stands.belongs;
      may_turn = stands.may_turn;
      agrees = record {
        layout = agrees.layout;
        here = agrees.here;
        handed = agrees.handed;
        in_order = agrees.in_order;
        its_rounds = record {
          counts_are = its.counts_are;
          totals_are = its.totals_are;
          known_are = its.known_are;
          first_is = its.first_is;
          left_are = its.left_are;
          last_is = its.last_is;
          heard_are = its.heard_are;
        };
        outside = λ none. absurd cc;
      };
    }

pub entered_waits : {C : Type 0} (apply : Applies C) (start : C → C) (outside entered : BarrierState) (me now : Rank C) (post : PostState) →
    entered ≡ record outside { inside = true } → now ≡ me → me.stopped ≡ false → Stands apply start outside me post →
    HasWaited apply start (record outside { inside = true }) entered me now post post
entered_waits {C} apply start outside entered me now post enters same going stands =
    let inside : BarrierState = record outside { inside = true } in
    let first : HasWaited apply start inside inside me me post post =
    waited_first apply start inside me post refl going (stands_inside apply start outside me post stands) in
    subst (λ (rank : Rank C). HasWaited apply start inside entered me rank post post) (sym same)
    (subst (λ barrier. HasWaited apply start inside barrier me me post post) (sym enters) first)

-- ---- a poll that ended

module _ {C : Type 0} (apply : Applies C) (start : C → C) (entered barrier left : BarrierState) (one me now : Rank C) (before mid after : PostState)
    (waited : HasWaited apply start entered barrier one me before mid) (answer : Polled)
    (ended : PollEnded apply start barrier left me now mid after answer) where
  abbrev run_since : List Letter
  run_since = waited.run ++ run_by_poll apply me now (mid.log me.here) (after.log me.here) ended.turn ended.polled

  advanced_then : Advanced apply one now (before.log one.here) (after.log one.here) run_since
  advanced_then =
      let more = run_by_poll apply me now (mid.log me.here) (after.log me.here) ended.turn ended.polled in
      advanced_more apply one me now (before.log one.here) (mid.log one.here) (after.log one.here) waited.same_rank waited.run more waited.advanced
      (subst (λ here. Advanced apply me now (mid.log here) (after.log here) more) waited.same_rank.here
      (polled_advances apply me now (mid.log me.here) (after.log me.here) ended.turn ended.polled))

  grown_then : IsPrefix (before.log one.here) (after.log one.here)
  grown_then =
      prefix_trans waited.grown
      (subst (λ here. IsPrefix (mid.log here) (after.log here)) waited.same_rank.here
      (polled_grows apply me now (mid.log me.here) (after.log me.here) ended.turn ended.polled))

  counted_then : PutAllBeforeCounts apply one (before.log one.here) (after.log one.here)
  counted_then =
      counted_more apply one me now (before.log one.here) (mid.log one.here) (after.log one.here) ended.turn waited.run
      waited.none_waited waited.same_rank ended.same_rank waited.advanced
      (subst (λ here. HasPolled apply me now (mid.log here) (after.log here) ended.turn) waited.same_rank.here ended.polled)
      waited.counted

  stops_then : SameStops before after
  stops_then rank = ended.stops rank ∙ waited.stops rank

  -- it waited too
  waited_then : IsSameBarrier barrier left → Worked (record me { stopped = false }) now → KeepsPost me mid after → PolledWaiting barrier left →
      HasWaited apply start entered left one now before after
  waited_then same worked keeps waits = record {
    run = run_since;
    advanced = advanced_then;
    grown = grown_then;
    none_waited = waited.none_waited;
    counted = counted_then;
    stands = ended.stands;
    same = same_barrier_then entered barrier left waited.same same;
    waits = record { same_left = waits.same_left ∙ waited.waits.same_left; inside = waits.inside };
    going = ap (λ (rank : Rank C). rank.stopped) worked;
    same_rank = same_rank_more one me now waited.same_rank (worked_same me now false worked);
    keeps = keeps_post_then one me before mid after waited.same_rank waited.keeps keeps;
    stops = stops_then;
    halts = ended.halts ∙ waited.halts;
  }

  -- or the rank left its barrier
  left_then : (outside : BarrierState) → entered.left ≡ outside.left → (number round : ℕ) →
      PolledLeft barrier left (local_of now (after.log me.here)) number round →
      BarrierEnded apply start outside left one now before after number round
  left_then outside same number round leaves = record {
    run = run_since;
    advanced = advanced_then;
    grown = grown_then;
    counted = counted_then;
    stands = ended.stands;
    left = record {
      number_is = leaves.number_is ∙ waited.waits.same_left ∙ same;
      has_left = subst (λ here. HasLeft (local_of now (after.log here)) number round) waited.same_rank.here leaves.has_left;
      one_more = leaves.one_more ∙ ap (λ n. n + 1) (waited.waits.same_left ∙ same);
      outside = leaves.outside;
    };
    stops = stops_then;
    halts = ended.halts ∙ waited.halts;
  }

module _ {C : Type 0} (apply : Applies C) (start : C → C) (entered barrier left : BarrierState) (one me now : Rank C) (before mid after : PostState)
    (waited : HasWaited apply start entered barrier one me before mid) where
  pub waited_more : (why : Waiting) → IsSameBarrier barrier left → Worked (record me { stopped = false }) now → KeepsPost me mid after →
      (answer : Polled) → answer ≡ Waits why → PollEnded apply start barrier left me now mid after answer →
      HasWaited apply start entered left one now before after
  waited_more why same worked keeps answer is any =
      let ended = subst (PollEnded apply start barrier left me now mid after) is any in
      waited_then apply start entered barrier left one me now before mid after waited (Waits why) ended same worked keeps ended.answers.0

  -- `outside` is the barrier before it was entered
  pub barrier_ended : (outside : BarrierState) → entered.left ≡ outside.left → (number round : ℕ) →
      (answer : Polled) → answer ≡ Left number round → PollEnded apply start barrier left me now mid after answer →
      BarrierEnded apply start outside left one now before after number round
  barrier_ended outside same number round answer is any =
      let leaves = Left number round in
      let ended = subst (PollEnded apply start barrier left me now mid after) is any in
      left_then apply start entered barrier left one me now before mid after waited leaves ended outside same number round ended.answers
