-- What a turn does, from its takes and its puts.
use Rattle.std.proofs.Common.{◌≡◌, ℕ, ◌+◌, ◌-◌, ◌^◌, min, false, is_err, Result, Ok, Err, Option, Some, None, List, [], ◌++◌, refl, sym, ap, ◌∙◌, subst, inl, inr, length, arith, append-nil}
use Rattle.std.specs.List.{AllByRecursion}
use Rattle.std.specs.Result.{IfOk}
use Rattle.std.proofs.lemmas.Bool.{cases_eq, false≢true}
use Rattle.send_buffers.specs.Buffers.{Queue}
use Rattle.world_core.specs.declared.entry.Entry.{Entry}
use Rattle.world_core.specs.Log.{IsPut, batches_taken, letters_taken}
use Rattle.world_core.specs.Pairs.{for_rank, of_pair}
use Rattle.world_core.specs.Post.{LookKeeps, SameFulls, SameMisses, PostState}
use Rattle.world_core.specs.Rising.{Rose}
use Rattle.comm_rank.specs.Agrees.{PutsData}
use Rattle.comm_rank.specs.declared.fault.CommFault.{CommFault}
use Rattle.comm_rank.specs.declared.fault.CommFault.TheVariants.{NoMemory}
use Rattle.comm_rank.specs.Fold.{Applies}
use Rattle.comm_rank.specs.declared.turn.Turn.{Turn}
use Rattle.comm_rank.specs.Moves.{PutOut}
use Rattle.comm_rank.specs.Rank.{Rank, halted, handed, sent_to}
use Rattle.comm_rank.specs.Running.{TookAll}
use Rattle.comm_rank.specs.Turns.{CutOff, FirstFull, FullAtFirst, HasEnded, IsCause, LookedAt, NoneOrFull, Turned, WasCut}
use Rattle.comm_rank.proofs.Agrees.AfterPuts.{data_gained, same_batches_taken}
use Rattle.comm_rank.proofs.Turns.Faults.{if_full}

module _ {C : Type 0} (apply : Applies C) (old mid new : Rank C) (before between after : List Entry) (took : ℕ) (first : TookAll apply old mid before between took) (placed : List Entry) (out : PutOut mid new between after placed) where
  whole_log : after ≡ (before ++ first.taken) ++ placed
  whole_log = out.log ∙ ap (λ xs. xs ++ placed) first.gained.log

  still : {X : Type 0} (f : Rank C → X) → f new ≡ f (record mid { held = new.held })
  still f = ap f out.rank

  -- all letters ran, and then a put was refused
  cut_off : CutOff apply old new before after
  cut_off =
      let run = for_rank old.here (letters_taken first.taken) in
      let waits : new.waiting ≡ [] = still (λ me. me.waiting) ∙ first.nothing_waits in
      record {
        taken = first.taken;
        placed = placed;
        run = run;
        given = [];
        gained = record { log = whole_log; takes = first.gained.takes; in_order = first.gained.in_order; puts = out.puts; data_alone = out.data_alone };
        arrived = sym (append-nil run) ∙ ap (λ xs. run ++ for_rank old.here xs) (sym waits);
        ran = out.ran ∙ first.advanced.ran;
        controls = still (λ me. me.controls) ∙ first.controls;
        begun = inl (still (λ me. me.contents) ∙ first.advanced.contents, refl);
        sent = λ to. out.sent to ∙ first.advanced.sent to ∙ ap (λ xs. sent_to old before to ++ of_pair old.here to xs) (sym (append-nil (handed apply old run)));
        run_count = still (λ me. me.run_count) ∙ first.advanced.run_count;
        sent_count = omega (arith, still (λ me. me.sent_count), first.advanced.sent_count);
        told = inl (still (λ me. me.heard) ∙ first.advanced.told);
      }

  pub turned : (turn : Turn) → turn.took ≡ took → turn.put ≡ min (length placed) (2 ^ 64 - 1) → Turned apply old new before after turn
  turned turn t p = record {
    taken = first.taken;
    placed = placed;
    gained = record { log = whole_log; takes = first.gained.takes; in_order = first.gained.in_order; puts = out.puts; data_alone = out.data_alone };
    advanced = record {
      ran = out.ran ∙ first.advanced.ran;
      contents = still (λ me. me.contents) ∙ first.advanced.contents;
      sent = λ to. out.sent to ∙ first.advanced.sent to;
      run_count = still (λ me. me.run_count) ∙ first.advanced.run_count;
      sent_count = still (λ me. me.sent_count) ∙ first.advanced.sent_count;
      told = still (λ me. me.heard) ∙ first.advanced.told;
    };
    nothing_waits = still (λ me. me.waiting) ∙ first.nothing_waits;
    controls = still (λ me. me.controls) ∙ first.controls;
    took = t ∙ first.took_count;
    put = p;
  }

  pub was_cut : (fault : CommFault) → fault ≡ NoMemory → WasCut apply old new before after fault
  was_cut fault is = rw is (record { cut_off = cut_off; full_at_first = tt; cause = record { count_full = tt; gave = tt; never_stopped = tt } })

-- ---- at the post

-- the rank put between `b` and `c`; between `a` and `b` no link was found full
module _ (a b c : PostState) (fulls : SameFulls a b) where
  pub met_then : (to : ℕ) (held : List Queue) → NoneOrFull to held b c → NoneOrFull to held a c
  met_then to held met = elim met [
    | inl none ↦ inl none
    | inr full ↦ inr (record {
      rose = subst (λ n. Rose n (c.fulls to)) (fulls to) full.rose;
      some = full.some;
    })
  ]

  pub full_then : (ranks before : ℕ) → before ≡ ranks → (held : List Queue) (full : Option ℕ) → FirstFull before held b c full → FirstFull ranks held a c full
  full_then ranks before e held None none = λ rank. none rank ∙ fulls rank
  full_then ranks before e held (Some to) found = record {
    within = omega (arith, found.within, e);
    rose = subst (λ n. Rose n (c.fulls to)) (fulls to) found.rose;
    some = found.some;
    lower = λ rank below. found.lower rank below ∙ fulls rank;
  }

pub looked_then : (here there : ℕ) (a b c : PostState) → there ≡ here → SameMisses b c → (placed : List Entry) → c.log there ≡ b.log there ++ placed → AllByRecursion IsPut placed →
    (from : ℕ) → LookedAt here from a b → LookedAt here from a c
looked_then here there a b c same misses placed log puts from looked =
    let P : ℕ → Type 0 = λ h. c.log h ≡ b.log h ++ placed in
    elim looked [
      | inl took ↦ inl (ap (λ xs. length (batches_taken from xs)) (subst P same log) ∙ ap length (same_batches_taken from placed (b.log here) puts) ∙ took)
      | inr missed ↦ inr (subst (Rose (a.misses from)) (sym (misses from)) missed)
    ]

-- ---- a turn that failed: the rank is stopped, and raising the stop leaves its log unchanged

pub log_at : (here there : ℕ) (log after : ℕ → List Entry) → here ≡ there → after here ≡ log here → after there ≡ log there
log_at here there log after e = subst (λ h. after h ≡ log h) e

module _ {C : Type 0} (apply : Applies C) (old was mid : Rank C) (before looked after now : List Entry) (e : was ≡ mid) (first : looked ≡ before) (last : now ≡ after) where
  at_logs : (P : Rank C → List Entry → List Entry → Type 0) → P mid looked after → P was before now
  at_logs P h = subst (λ (me : Rank C). P me before now) (sym e) (subst (P mid before) (sym last) (subst (λ xs. P mid xs after) first h))

  cut_stopped : CutOff apply old mid looked after → CutOff apply old (halted was) before now
  cut_stopped cut =
      let c = at_logs (CutOff apply old) cut in
      record {
        taken = c.taken;
        placed = c.placed;
        run = c.run;
        given = c.given;
        gained = c.gained;
        arrived = c.arrived;
        ran = c.ran;
        controls = c.controls;
        begun = c.begun;
        sent = c.sent;
        run_count = c.run_count;
        sent_count = c.sent_count;
        told = c.told;
      }

  full_stopped : FullAtFirst apply old mid looked after → FullAtFirst apply old (halted was) before now
  full_stopped full =
      let f = at_logs (FullAtFirst apply old) full in
      record { run = f.run; ran = f.ran; full = record { next = f.full.next; waits = f.full.waits; too_many = f.full.too_many; told = f.full.told } }

  pub was_cut_stopped : (fault : CommFault) → WasCut apply old mid looked after fault → WasCut apply old (halted was) before now fault
  was_cut_stopped fault w =
      let cause = at_logs (λ me xs ys. IsCause apply old me fault) w.cause in
      record {
        cut_off = cut_stopped w.cut_off;
        full_at_first = if_full fault (λ _ full. full_stopped full) w.full_at_first;
        cause = record { count_full = cause.count_full; gave = cause.gave; never_stopped = cause.never_stopped };
      }

-- a look at the stop before it changed nothing that it says
module _ {C : Type 0} (apply : Applies C) (start : C → C) (old new : Rank C) (here : ℕ) (before looked after : PostState) (same : here ≡ old.here) (keeps : LookKeeps here before looked) where
  look_logs : (rank : ℕ) → looked.log rank ≡ before.log rank
  look_logs rank = elim (cases_eq rank here) [
    | inl is ↦ let P : ℕ → Type 0 = λ r. looked.log r ≡ before.log r in subst P (sym is) keeps.log
    | inr other ↦ keeps.same.other_logs rank other
  ]

  looked_since : (from : ℕ) → LookedAt old.here from looked after → LookedAt old.here from before after
  looked_since from found = elim found [
    | inl took ↦ inl (took ∙ ap (λ log. length (batches_taken from log) + 1) (look_logs old.here))
    | inr missed ↦ inr (subst (λ n. Rose n (after.misses from)) (keeps.misses from) missed)
  ]

  pub ended_since : looked.halts ≡ before.halts → (turn : Turn) → HasEnded apply start old new looked after turn → HasEnded apply start old new before after turn
  ended_since halts turn e = record {
    turned = subst (λ log. Turned apply old new log (after.log old.here) turn) (look_logs old.here) e.turned;
    belongs = e.belongs;
    may_turn = e.may_turn;
    takes_from_each = λ from within. looked_since from (e.takes_from_each from within);
    puts_to_each = λ to within. met_then before looked after keeps.fulls to new.held (e.puts_to_each to within);
    full = full_then before looked after keeps.fulls old.layout.ranks old.layout.ranks refl new.held turn.full e.full;
    none_held = e.none_held;
    stops = λ rank. e.stops rank ∙ keeps.stops rank;
    halts = e.halts ∙ halts;
  }

-- a rank that isn't stopped after a turn has put data letters alone
pub data_after : {C : Type 0} (apply : Applies C) (start : C → C) (me now : Rank C) (old new : PostState) (r : Result Turn CommFault) → IfOk r (HasEnded apply start me now old new) →
    now.stopped ≡ is_err r → now.stopped ≡ false → PutsData (old.log me.here) → PutsData (new.log me.here)
data_after apply start me now old new (Ok turn) ended is going alone =
    data_gained (old.log me.here) (new.log me.here) ended.turned.taken ended.turned.placed ended.turned.gained alone
data_after apply start me now old new (Err fault) ended is going alone = absurd (false≢true (sym going ∙ is))
