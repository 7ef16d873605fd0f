-- What a poll does after its turn.
use Rattle.std.proofs.Common.{◌≡◌, ℕ, ◌-◌, ◌<◌, ◌≤◌, inl, inr, true, false, is_some, Option, None, Some, Result, Ok, Err, IfOk, List, [], ◌++◌, refl, sym, ap, ◌∙◌, subst, append-nil, arith}
use Rattle.std.specs.List.{filter}
use Rattle.std.proofs.lemmas.Bool.{false≢true}
use Rattle.std.proofs.lemmas.Option.{none-some}
use Rattle.list_facts.specs.Prefix.{IsSuffix}
use Rattle.msg_codec.specs.Control.{is_control}
use Rattle.msg_codec.specs.declared.letter.Letter.{Letter}
use Rattle.world_core.specs.Log.{letters_taken}
use Rattle.world_core.specs.Post.{PostState, SameFulls, local_at}
use Rattle.world_core.specs.Rules.{IsHonest}
use Rattle.comm_rank.specs.declared.fault.CommFault.{CommFault}
use Rattle.comm_rank.specs.Fold.{Applies}
use Rattle.comm_rank.specs.Rank.{Rank, halted, held_letters, local_of}
use Rattle.comm_rank.specs.Turns.{PutsKeep}
use Rattle.comm_rank.proofs.Agrees.AfterControl.{agrees_with_controls}
use Rattle.comm_rank.proofs.Moves.OnePut.{keeps_none}
use Rattle.term_barrier.specs.Barriers.{BarrierAgrees, BarrierState, HasPutTotals, HasRoom, InRange, with_letters}
use Rattle.term_barrier.specs.Polls.{AfterTurn, FoundFull, HasPutControls, HasPutDue, IsSameBarrier, PolledLeft, PolledWaiting, PutsDue, Stands}
use Rattle.term_barrier.proofs.Barriers.Handed.{agrees_handed_all, with_letters_keeps}
use Rattle.term_barrier.proofs.Barriers.Leaving.{LeftOnce, left_now, left_once, left_outside}
use Rattle.term_barrier.proofs.Barriers.Room.{room}

-- the rank, once its control letters were handed over
abbrev pub handed_over : {C : Type 0} → Rank C → Rank C
handed_over me = record me { controls = [] }

module _ {C : Type 0} (apply : Applies C) (start : C → C) (barrier : BarrierState) (me : Rank C) (post : PostState)
    (stands : Stands apply start barrier me post) (range : InRange barrier) where
  pub has_room : HasRoom barrier me.controls
  has_room = room barrier me.controls (local_of me (post.log me.here)) range stands.belongs.agrees.modest stands.agrees

  abbrev now : BarrierState
  now = with_letters barrier me.controls

  with_agreement : (new : BarrierState) → BarrierAgrees new [] (local_of me (post.log me.here)) → Stands apply start new (handed_over me) post
  with_agreement new agrees =
      let log = post.log me.here in
      let none_left : IsSuffix [] (filter is_control (letters_taken log)) = record { before = _; joined = append-nil _ } in
      record {
        belongs = record {
          serves = stands.belongs.serves;
          layout = stands.belongs.layout;
          scheme = stands.belongs.scheme;
          agrees = agrees_with_controls apply start me log [] me.stopped none_left stands.belongs.agrees;
        };
        may_turn = stands.may_turn;
        agrees = agrees;
      }

  pub stands_handed : Stands apply start now (handed_over me) post
  stands_handed = with_agreement now (agrees_handed_all barrier me.controls (local_of me (post.log me.here)) range stands.agrees)

  -- ---- it left

  pub stands_outside : barrier.left < now.left → Stands apply start (record now { inside = false }) (handed_over me) post
  stands_outside more =
      with_agreement (record now { inside = false })
      (left_outside barrier me.controls (local_of me (post.log me.here)) range stands.belongs.agrees.modest stands.agrees more)

  once : LeftOnce barrier now
  once = left_once barrier me.controls range has_room

  pub polled_left : barrier.left < now.left → PolledLeft barrier (record now { inside = false }) (local_of me (post.log me.here)) barrier.left (now.known - 1)
  polled_left more = record {
    number_is = refl;
    has_left = left_now barrier me.controls (local_of me (post.log me.here)) range stands.belongs.agrees.modest stands.agrees more;
    one_more = elim once [ inl same ↦ absurd (omega (arith, same, more)) | inr one ↦ one.0 ];
    outside = refl;
  }

  pub none_put_after : AfterTurn me (handed_over me) post post
  none_put_after =
      record {
        handed_over = refl;
        gained = record { controls = []; log = sym (append-nil (post.log me.here)); each = tt; one_count = omega arith; none_held = λ some. absurd (omega (arith, some)) };
        keeps = keeps_none me.here post;
        honest = λ honest. honest;
      }

  -- ---- it didn't

  pub same_left : now.left ≤ barrier.left → now.left ≡ barrier.left
  same_left within = elim once [ inl same ↦ same | inr one ↦ absurd (omega (arith, within, one.0)) ]

  pub inside_still : now.inside ≡ barrier.inside
  inside_still = ap (λ (b : BarrierState). b.inside) (with_letters_keeps barrier me.controls)

  module _ (new : BarrierState) (after : PostState) (in_range : InRange now) (range_after : InRange new) (put : HasPutControls (held_letters me) now new post after) where
    here_is : now.here ≡ me.here
    here_is = ap (λ (b : BarrierState). b.here) (with_letters_keeps barrier me.controls) ∙ stands.agrees.here

    pub put_after : AfterTurn me (handed_over me) post after
    put_after = record {
      handed_over = refl;
      gained = record {
        controls = put.controls;
        log = subst (λ h. after.log h ≡ post.log h ++ put.controls) here_is put.log;
        each = put.each;
        one_count = (let known : new.known ≡ now.known = ap (λ (b : BarrierState). b.known) put.barrier in
            omega (arith, put.counted, known, range_after.one_ahead, in_range.counted_first));
        none_held = put.none_held;
      };
      keeps = subst (λ h. PutsKeep h post after) here_is put.keeps;
      honest = subst (λ h. IsHonest (local_at post h) → IsHonest (local_at after h)) here_is put.honest;
    }

-- ---- what none of this changes

pub same_handed : (barrier : BarrierState) (letters : List Letter) → IsSameBarrier barrier (with_letters barrier letters)
same_handed barrier letters =
    let keeps = with_letters_keeps barrier letters in
    record {
      layout = ap (λ (b : BarrierState). b.layout) keeps;
      here = ap (λ (b : BarrierState). b.here) keeps;
      rounds = ap (λ (b : BarrierState). b.rounds) keeps;
    }

pub same_put : (held : List Letter) (barrier told new : BarrierState) (before after : PostState) → IsSameBarrier barrier told → HasPutControls held told new before after → IsSameBarrier barrier new
same_put held barrier told new before after same put = record {
  layout = ap (λ (b : BarrierState). b.layout) put.barrier ∙ same.layout;
  here = ap (λ (b : BarrierState). b.here) put.barrier ∙ same.here;
  rounds = ap (λ (b : BarrierState). b.rounds) put.barrier ∙ same.rounds;
}

-- ---- what was due

pub puts_due : (held : List Letter) (barrier : BarrierState) (full : Option ℕ) (before after : PostState) → HasPutDue held barrier full before after → PutsDue held barrier before after
puts_due held barrier None before after due = record {
  count = λ none more. elim (due.count none more) [ inl put ↦ inl put | inr some ↦ absurd (none-some 0 some) ];
  totals = λ first all more. elim (due.totals first all more) [ inl put ↦ inl put | inr some ↦ absurd (false≢true some) ];
}
puts_due held barrier (Some to) before after due = record {
  count = λ none more. elim (due.count none more) [
    | inl put ↦ inl put
    | inr some ↦ inr (let found : FoundFull barrier.layout.ranks (Some 0) before after = subst (λ f. FoundFull barrier.layout.ranks f before after) some due.found in found.1)
  ];
  totals = λ first all more. elim (due.totals first all more) [ inl put ↦ inl put | inr some ↦ inr (to, due.found.0, due.found.1) ];
}

pub due_since : (held : List Letter) (barrier : BarrierState) (before looked after : PostState) → ((rank : ℕ) → before.fulls rank ≤ looked.fulls rank) →
    PutsDue held barrier looked after → PutsDue held barrier before after
due_since held barrier before looked after more due = record {
  count = λ none few. elim (due.count none few) [ inl put ↦ inl put | inr rose ↦ inr (omega (arith, rose, more 0)) ];
  totals = λ first all some. elim (due.totals first all some) [ inl put ↦ inl put | inr full ↦ inr (full.0, full.1, omega (arith, full.2, more full.0)) ];
}

-- where it waited, and where a put failed
pub polled_waiting : (held : List Letter) (barrier told new : BarrierState) (before after : PostState) → told.left ≡ barrier.left → told.inside ≡ true → HasPutControls held told new before after → PolledWaiting barrier new
polled_waiting held barrier told new before after left inside put = record {
  same_left = ap (λ (b : BarrierState). b.left) put.barrier ∙ left;
  inside = ap (λ (b : BarrierState). b.inside) put.barrier ∙ inside;
}

-- a rank that halts still stands with its barrier
pub stands_halted : {C : Type 0} (apply : Applies C) (start : C → C) (barrier : BarrierState) (me : Rank C) (post : PostState) → Stands apply start barrier me post → Stands apply start barrier (halted me) post
stands_halted apply start barrier me post stands = record {
  belongs = record {
    serves = stands.belongs.serves;
    layout = stands.belongs.layout;
    scheme = stands.belongs.scheme;
    agrees = agrees_with_controls apply start me (post.log me.here) me.controls true stands.belongs.agrees.controls stands.belongs.agrees;
  };
  may_turn = stands.may_turn;
  agrees = stands.agrees;
}

-- ---- a Count, and then Totals

found_since : (ranks : ℕ) (full : Option ℕ) (before mid after : PostState) → SameFulls before mid → FoundFull ranks full mid after → FoundFull ranks full before after
found_since ranks None before mid after same found = λ rank. found rank ∙ same rank
found_since ranks (Some to) before mid after same found = (found.0, omega (arith, found.1, same to))

module _ (held : List Letter) (counted now : BarrierState) (before mid after : PostState) (same : SameFulls before mid)
    (put : HasPutControls held counted now mid after) (counted_once : now.counted ≡ counted.counted)
    (count : held ≡ [] → counted.counted < counted.rounds → counted.known < counted.counted) where
  ranks_are : counted.layout.ranks ≡ now.layout.ranks
  ranks_are = sym (ap (λ (b : BarrierState). b.layout.ranks) put.barrier)

  count_now : held ≡ [] → now.counted < now.rounds → now.known < now.counted
  count_now none few =
      let rounds : now.rounds ≡ counted.rounds = ap (λ (b : BarrierState). b.rounds) put.barrier in
      let known : now.known ≡ counted.known = ap (λ (b : BarrierState). b.known) put.barrier in
      omega (arith, known, counted_once, count none (omega (arith, few, rounds, counted_once)))

  pub due_after : (result : Result (Option ℕ) CommFault) → IfOk result (λ full. FoundFull counted.layout.ranks full mid after) →
      (result ≡ Ok None → now.known < now.counted → HasPutTotals now) → IfOk result (λ full. HasPutDue held now full before after)
  due_after (Ok None) found totals = record {
    found = λ rank. found rank ∙ same rank;
    count = λ none few. inl (count_now none few);
    totals = λ first all more. elim (totals refl more first) [ inl put ↦ inl put | inr none ↦ absurd (none all) ];
  }
  due_after (Ok (Some to)) found totals = record {
    found = found_since now.layout.ranks (Some to) before mid after same (omega (arith, found.0, ranks_are), found.1);
    count = λ none few. inl (count_now none few);
    totals = λ first all more. inr refl;
  }
  due_after (Err fault) found totals = tt

pub none_from_false : {X : Type 0} (option : Option X) → is_some option ≡ false → option ≡ None
none_from_false None is = refl
none_from_false (Some x) is = absurd (false≢true (sym is))
