-- What a whole poll does: a turn, and what comes after it.
use Rattle.std.proofs.Common.{◌≡◌, ℕ, ◌<◌, inl, inr, true, false, Result, Ok, Err, IfOk, OnOk, List, [], ◌∷◌, ◌++◌, refl, sym, ap, ◌∙◌, subst, arith}
use Rattle.std.specs.List.{AllByRecursion}
use Rattle.world_core.specs.declared.entry.Entry.{Entry}
use Rattle.world_core.specs.declared.entry.Entry.TheVariants.{Put, Took}
use Rattle.world_core.specs.Log.{IsPut}
use Rattle.world_core.specs.Post.{PostState, RaiseKeeps, SamePost, StopRaised, local_at}
use Rattle.world_core.specs.Rules.{IsHonest}
use Rattle.comm_rank.specs.declared.fault.CommFault.{CommFault}
use Rattle.comm_rank.specs.declared.fault.CommFault.TheVariants.{NoMemory}
use Rattle.comm_rank.specs.declared.turn.Turn.{Turn}
use Rattle.comm_rank.specs.Agrees.{MayTurn}
use Rattle.comm_rank.specs.Fault.{UnlessStopped}
use Rattle.comm_rank.specs.Fold.{Applies}
use Rattle.comm_rank.specs.Held.{NoneClosed}
use Rattle.comm_rank.specs.Rank.{IsSameRank, Rank, Worked, halted, held_letters, local_of}
use Rattle.comm_rank.specs.Turns.{HasEnded, KeepsPost, LookedAt}
use Rattle.comm_rank.proofs.Rank.Same.{same_rank}
use Rattle.comm_rank.proofs.Turns.Outcomes.{looked_then}
use Rattle.term_barrier.specs.declared.polled.Polled.{Polled}
use Rattle.term_barrier.specs.Barriers.{BarrierAgrees, BarrierState}
use Rattle.term_barrier.specs.Polls.{AfterTurn, GainedControls, HasPolled, IsAnswer, PollEnded, PollFailed, PolledWaiting, PutsControl, PutsDue, Stands}
use Rattle.term_barrier.proofs.Barriers.Agrees.{agrees_turned}
use Rattle.term_barrier.proofs.Polls.AfterTurn.{due_since, stands_halted}
use Rattle.term_barrier.proofs.Puts.Moved.{stands_still}
use Rattle.term_barrier.proofs.Waited.Kept.{keeps_post_then}

pub same_going : {C : Type 0} (one mid : Rank C) → Worked (record one { stopped = false }) mid → IsSameRank one mid
same_going one mid worked =
    let same = same_rank (record one { stopped = false }) mid worked in
    record { layout = same.layout; scheme = same.scheme; here = same.here; most = same.most }

puts_of_controls : (entries : List Entry) → AllByRecursion PutsControl entries → AllByRecursion IsPut entries
puts_of_controls [] all = tt
puts_of_controls (Put to letters ∷ entries) all = (tt, puts_of_controls entries all.1)
puts_of_controls (Took from letters ∷ entries) all = absurd all.0

module _ {C : Type 0} (apply : Applies C) (start : C → C) (barrier : BarrierState) (one mid : Rank C) (before looked : PostState) (turn : Turn)
    (same : IsSameRank one mid) (ended : HasEnded apply start one mid before looked turn) where
  pub stands_turned : Stands apply start barrier one before → Stands apply start barrier mid looked
  stands_turned stands =
      let there : (log : ℕ → List Entry) → log one.here ≡ log mid.here = λ log. ap log (sym same.here) in
      let agrees = agrees_turned apply one mid (before.log one.here) (looked.log one.here) turn barrier one.controls ended.turned same stands.agrees in
      record {
        belongs = ended.belongs;
        may_turn = subst (λ log. MayTurn mid log) (there looked.log) ended.may_turn;
        agrees = subst (λ log. BarrierAgrees barrier mid.controls (local_of mid log)) (there looked.log)
            (subst (λ kept. BarrierAgrees barrier kept (local_of mid (looked.log one.here))) (sym ended.turned.controls) agrees);
      }

  module _ (me : Rank C) (after : PostState) (then : AfterTurn mid me looked after) where
    here : mid.here ≡ one.here
    here = same.here

    same_held : held_letters mid ≡ held_letters me
    same_held = sym (ap (λ (r : Rank C). held_letters r) then.handed_over)

    same_lists : mid.held ≡ me.held
    same_lists = sym (ap (λ (r : Rank C). r.held) then.handed_over)

    gained : GainedControls (held_letters me) (looked.log one.here) (after.log one.here)
    gained =
        subst (λ h. GainedControls (held_letters me) (looked.log h) (after.log h)) here
        (subst (λ held. GainedControls held (looked.log mid.here) (after.log mid.here)) same_held then.gained)

    pub has_polled : HasPolled apply one me (before.log one.here) (after.log one.here) turn
    has_polled = record { rank = mid; log = looked.log one.here; turned = ended.turned; gained = gained; handed_over = then.handed_over }

    pub looked_at_each : (from : ℕ) → from < one.layout.ranks → LookedAt one.here from before after
    looked_at_each from within =
        let log : after.log mid.here ≡ looked.log mid.here ++ then.gained.controls = then.gained.log in
        looked_then one.here mid.here before looked after here then.keeps.misses then.gained.controls log
        (puts_of_controls then.gained.controls then.gained.each) from (ended.takes_from_each from within)

    pub same_after : IsSameRank one me
    same_after = record {
      layout = ap (λ (r : Rank C). r.layout) then.handed_over ∙ same.layout;
      scheme = ap (λ (r : Rank C). r.scheme) then.handed_over ∙ same.scheme;
      here = ap (λ (r : Rank C). r.here) then.handed_over ∙ here;
      most = ap (λ (r : Rank C). r.most) then.handed_over ∙ same.most;
    }

    pub poll_ended : (new : BarrierState) (answer : Polled) → KeepsPost one before looked → Stands apply start new me after →
        (new.inside ≡ true → PutsDue (held_letters me) new looked after) →
        IsAnswer barrier new (local_of me (after.log me.here)) before after turn answer → PollEnded apply start barrier new one me before after answer
    poll_ended new answer first stands due answers = record {
      turn = turn;
      polled = has_polled;
      same_rank = same_after;
      stands = stands;
      answers = subst (λ h. IsAnswer barrier new (local_of me (after.log h)) before after turn answer)
          same_after.here answers;
      puts_due = λ inside. due_since (held_letters me) new before looked after first.counts.fulls (due inside);
      takes_from_each = looked_at_each;
      puts_to_each = λ to within. elim (ended.puts_to_each to within) [
        | inl none ↦ inl (subst (λ held. NoneClosed held to) same_lists none)
        | inr met ↦ inr (record {
          rose = omega (arith, met.rose, then.keeps.counts.fulls to);
          some = λ none. met.some (subst (λ held. NoneClosed held to) (sym same_lists) none);
        })
      ];
      stops = λ rank. then.keeps.stops rank ∙ ended.stops rank;
      halts = then.keeps.halts ∙ ended.halts;
    }

    local_there : (post : PostState) → post.layout ≡ mid.layout → post.scheme ≡ mid.scheme → local_at post mid.here ≡ local_of mid (post.log mid.here)
    local_there post layout scheme = rw (layout, scheme) refl

    pub keeps_after_turn : KeepsPost mid looked after
    keeps_after_turn =
        let was = local_there looked ended.belongs.layout ended.belongs.scheme in
        let now = local_there after (then.keeps.same.layout ∙ ended.belongs.layout) (then.keeps.same.scheme ∙ ended.belongs.scheme) in
        record {
          same = then.keeps.same;
          honest = λ honest. subst IsHonest now (then.honest (subst IsHonest (sym was) honest));
          other_stops = λ rank other. then.keeps.stops rank;
          counts = then.keeps.counts;
        }

    pub keeps_poll : KeepsPost one before looked → KeepsPost one before after
    keeps_poll first = keeps_post_then one mid before looked after same first keeps_after_turn

-- ---- the rank halts

keeps_halted : {C : Type 0} (me : Rank C) (before after : PostState) → StopRaised me.here before after → RaiseKeeps me.here before after → KeepsPost me before after
keeps_halted me before after raised keeps = record {
  same = keeps.same;
  honest = λ honest. subst (λ log. IsHonest (local_of me log)) (sym keeps.log) honest;
  other_stops = raised.others;
  counts = record {
    fulls = λ rank. omega (arith, keeps.fulls rank);
    misses = λ rank. omega (arith, keeps.misses rank);
    halts = omega (arith, keeps.halts);
  };
}

module _ {C : Type 0} (apply : Applies C) (start : C → C) (barrier : BarrierState) (one mid me : Rank C) (before looked after ended_at : PostState) (turn : Turn)
    (same : IsSameRank one mid) (ended : HasEnded apply start one mid before looked turn) (then : AfterTurn mid me looked after)
    (raised : StopRaised me.here after ended_at) (keeps : RaiseKeeps me.here after ended_at) where
  me_here : me.here ≡ one.here
  me_here = ap (λ (r : Rank C). r.here) then.handed_over ∙ same.here

  pub keeps_failed : KeepsPost one before looked → KeepsPost one before ended_at
  keeps_failed first =
      let same_me = same_after apply start barrier one mid before looked turn same ended me after then in
      keeps_post_then one me before after ended_at same_me
      (keeps_post_then one mid before looked after same first (keeps_after_turn apply start barrier one mid before looked turn same ended me after then))
      (keeps_halted me after ended_at raised keeps)

  pub put_failed : (new : BarrierState) (fault : CommFault) → fault ≡ NoMemory → PolledWaiting barrier new → Stands apply start new me after →
      me.stopped ≡ false → (now : Rank C) → now ≡ halted me → UnlessStopped fault (PollFailed apply start barrier new one now before ended_at fault)
  put_failed new fault no_memory waits stands going now now_is =
      let log : ended_at.log one.here ≡ after.log one.here = subst (λ h. ended_at.log h ≡ after.log h) me_here keeps.log in
      let polled = has_polled apply start barrier one mid before looked turn same ended me after then in
      let back : me ≡ record now { stopped = false } = sym (ap (λ (r : Rank C). record r { stopped = false }) now_is ∙ ap (λ b. record me { stopped = b }) (sym going)) in
      rw no_memory (inr (record {
        turn = turn;
        polled = subst (λ (r : Rank C). HasPolled apply one r (before.log one.here) (ended_at.log one.here) turn) back
            (subst (λ entries. HasPolled apply one me (before.log one.here) entries turn) (sym log) polled);
        stands = subst (λ (r : Rank C). Stands apply start new r ended_at) (sym now_is) (stands_halted apply start new me ended_at
            (stands_still apply start new me after ended_at stands (subst (λ h. SamePost h after ended_at) (sym stands.agrees.here) keeps.same)
            (subst (λ h. ended_at.log h ≡ after.log h) (sym stands.agrees.here) keeps.log)));
        waits = waits;
        no_memory = refl;
        raises_the_stop = subst (λ h. ended_at.raised h ≡ true) me_here raised.raised;
        halts = keeps.halts ∙ then.keeps.halts ∙ ended.halts;
      }))

-- what holds of the answer, and what holds wherever there is one
pub with_due : {T E : Type 0} (result : Result T E) (P : T → Type 0) (Q : Type 0) → IfOk result P → OnOk result Q → IfOk result (λ answer. P answer × Q)
with_due (Ok answer) P Q first second = (first, second)
with_due (Err fault) P Q first second = tt
