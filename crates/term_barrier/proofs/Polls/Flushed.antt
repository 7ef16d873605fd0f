-- What a turn of a rank whose batches were closed before is to the rank before that.
use Rattle.std.proofs.Common.{◌≡◌, ℕ, false, List, ◌++◌, inl, inr, sym, ap, ◌∙◌, subst}
use Rattle.send_buffers.specs.Buffers.{Queue, queued}
use Rattle.world_core.specs.declared.entry.Entry.{Entry}
use Rattle.world_core.specs.Log.{letters_taken}
use Rattle.world_core.specs.Pairs.{for_rank, of_pair, pair_put}
use Rattle.world_core.specs.Post.{PostState}
use Rattle.comm_rank.specs.declared.fault.CommFault.{CommFault}
use Rattle.comm_rank.specs.declared.turn.Turn.{Turn}
use Rattle.comm_rank.specs.Agrees.{MaySend}
use Rattle.comm_rank.specs.Fold.{Applies}
use Rattle.comm_rank.specs.Rank.{Rank, handed, held_letters, local_of, sent_to}
use Rattle.comm_rank.specs.Turns.{KeepsPost, Turned, WasCut}
use Rattle.comm_rank.proofs.Agrees.AfterSend.{agrees_rebatched}
use Rattle.comm_rank.proofs.Turns.Faults.{if_full}
use Rattle.term_barrier.specs.declared.polled.Polled.{Polled}
use Rattle.term_barrier.specs.Barriers.{BarrierState}
use Rattle.term_barrier.specs.Polls.{HasPolled, PollEnded, PollFailed, Stands}

module _ {C : Type 0} (apply : Applies C) (start : C → C) (old : Rank C) (held : List Queue) (same : queued held ≡ held_letters old) where
  abbrev flushed : Rank C
  flushed = record old { held = held }

  sent_same : (log : List Entry) (to : ℕ) → sent_to flushed log to ≡ sent_to old log to
  sent_same log to = ap (λ letters. pair_put old.here to log ++ of_pair old.here to letters) same

  turned_before : (new : Rank C) (before after : List Entry) (turn : Turn) → Turned apply flushed new before after turn → Turned apply old new before after turn
  turned_before new before after turn t = record {
    taken = t.taken;
    placed = t.placed;
    gained = t.gained;
    advanced = record {
      ran = t.advanced.ran;
      contents = t.advanced.contents;
      sent = λ to. t.advanced.sent to ∙ ap (λ letters. letters ++ of_pair old.here to (handed apply old (for_rank old.here (letters_taken t.taken)))) (sent_same before to);
      run_count = t.advanced.run_count;
      sent_count = t.advanced.sent_count;
      told = t.advanced.told;
    };
    nothing_waits = t.nothing_waits;
    controls = t.controls;
    took = t.took;
    put = t.put;
  }

  polled_before : (new : Rank C) (before after : List Entry) (turn : Turn) → HasPolled apply flushed new before after turn → HasPolled apply old new before after turn
  polled_before new before after turn p = record {
    rank = p.rank;
    log = p.log;
    turned = turned_before p.rank before p.log turn p.turned;
    gained = p.gained;
    handed_over = p.handed_over;
  }

  cut_before : (new : Rank C) (before after : List Entry) (fault : CommFault) → WasCut apply flushed new before after fault → WasCut apply old new before after fault
  cut_before new before after fault w = record {
    cut_off = record {
      taken = w.cut_off.taken;
      placed = w.cut_off.placed;
      run = w.cut_off.run;
      given = w.cut_off.given;
      gained = w.cut_off.gained;
      arrived = w.cut_off.arrived;
      ran = w.cut_off.ran;
      controls = w.cut_off.controls;
      begun = w.cut_off.begun;
      sent = λ to. w.cut_off.sent to ∙ ap (λ letters. letters ++ of_pair old.here to (handed apply old w.cut_off.run ++ w.cut_off.given)) (sent_same before to);
      run_count = w.cut_off.run_count;
      sent_count = w.cut_off.sent_count;
      told = w.cut_off.told;
    };
    full_at_first = if_full fault (λ _ f. record { run = f.run; ran = f.ran; full = record { next = f.full.next; waits = f.full.waits; too_many = f.full.too_many; told = f.full.told } }) w.full_at_first;
    cause = record { count_full = w.cause.count_full; gave = w.cause.gave; never_stopped = w.cause.never_stopped };
  }

  pub stands_flushed : (barrier : BarrierState) (post : PostState) → Stands apply start barrier old post → Stands apply start barrier flushed post
  stands_flushed barrier post stands = record {
    belongs = record {
      serves = stands.belongs.serves;
      layout = stands.belongs.layout;
      scheme = stands.belongs.scheme;
      agrees = agrees_rebatched apply start old (post.log old.here) held same stands.belongs.agrees;
    };
    may_turn = subst (MaySend (local_of old (post.log old.here))) (sym same) stands.may_turn;
    agrees = stands.agrees;
  }

  pub ended_before : (was now : BarrierState) (me : Rank C) (before after : PostState) (answer : Polled) → PollEnded apply start was now flushed me before after answer →
      PollEnded apply start was now old me before after answer
  ended_before was now me before after answer e = record {
    turn = e.turn;
    polled = polled_before me (before.log old.here) (after.log old.here) e.turn e.polled;
    same_rank = record { layout = e.same_rank.layout; scheme = e.same_rank.scheme; here = e.same_rank.here; most = e.same_rank.most };
    stands = e.stands;
    answers = e.answers;
    puts_due = e.puts_due;
    takes_from_each = e.takes_from_each;
    puts_to_each = e.puts_to_each;
    stops = e.stops;
    halts = e.halts;
  }

  pub failed_before : (was now : BarrierState) (me : Rank C) (before after : PostState) (fault : CommFault) → PollFailed apply start was now flushed me before after fault →
      PollFailed apply start was now old me before after fault
  failed_before was now me before after fault failed = elim failed [
    | inl turn ↦ inl (
      record { was_cut = cut_before me (before.log old.here) (after.log old.here) fault turn.0.was_cut; raises_the_stop = turn.0.raises_the_stop; halts = turn.0.halts },
      turn.1,
    )
    | inr put ↦ inr (record {
      turn = put.turn;
      polled = polled_before (record me { stopped = false }) (before.log old.here) (after.log old.here) put.turn put.polled;
      stands = put.stands;
      waits = put.waits;
      no_memory = put.no_memory;
      raises_the_stop = put.raises_the_stop;
      halts = put.halts;
    })
  ]

  pub keeps_before : (before after : PostState) → KeepsPost flushed before after → KeepsPost old before after
  keeps_before before after k = record { same = k.same; honest = k.honest; other_stops = k.other_stops; counts = k.counts }
