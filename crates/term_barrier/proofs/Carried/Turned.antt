-- A rank carries its phases on as it takes a turn, and as another rank does anything.
use Rattle.std.proofs.Common.{◌≡◌, ◌≢◌, ℕ, false, List, sym, subst, arith}
use Rattle.list_facts.specs.Prefix.{IsPrefix}
use Rattle.list_facts.proofs.Prefix.{prefix_append, prefix_longer}
use Rattle.msg_codec.specs.declared.letter.Letter.{Letter}
use Rattle.world_core.specs.declared.entry.Entry.{Entry}
use Rattle.world_core.specs.Modest.{IsModest}
use Rattle.world_core.specs.Post.{PostState, SamePost}
use Rattle.comm_rank.specs.declared.turn.Turn.{Turn}
use Rattle.comm_rank.specs.Fold.{Applies}
use Rattle.comm_rank.specs.Rank.{IsSameRank, Rank, Worked, held_letters, local_of}
use Rattle.comm_rank.specs.Turns.{HasEnded}
use Rattle.term_barrier.specs.Account.{IsUpToDate, handler_of}
use Rattle.term_barrier.specs.Barriers.{BarrierState}
use Rattle.term_barrier.specs.Carried.{Carries, Phases, own_cuts}
use Rattle.term_barrier.specs.Cuts.{phase_start}
use Rattle.term_barrier.proofs.Account.Turned.{account_turn, agrees_up_to_date}
use Rattle.term_barrier.proofs.Carried.Grown.{account_recut, left_grown, places_recut}
use Rattle.term_barrier.proofs.CountedPlace.Polled.{counts_turn, places_turn}
use Rattle.term_barrier.proofs.Polls.Ended.{same_going, stands_turned}
use Rattle.term_barrier.proofs.Polls.Stands.{stands_unchanged}

module _ {C : Type 0} (apply : Applies C) (start : C → C)
    (keeps : (c : C) (here ranks : ℕ) (l : Letter) → start (apply c here ranks l).0 ≡ start c)
    (own : ℕ → ℕ → List Letter) (rounds : ℕ → ℕ) (barrier : BarrierState) (old new : Rank C) (before after : PostState) (turn : Turn)
    (worked : Worked (record old { stopped = false }) new) (ended : HasEnded apply start old new before after turn)
    (carries : Carries apply start own rounds barrier old before) where
  abbrev log : List Entry
  log = before.log old.here

  abbrev log_now : List Entry
  log_now = after.log old.here

  same : IsSameRank old new
  same = same_going old new worked

  modest : IsModest (local_of old log)
  modest = carries.stands.belongs.agrees.modest

  up : IsUpToDate apply start old log
  up = agrees_up_to_date apply start old log carries.stands.belongs.agrees

  grows : IsPrefix log log_now
  grows =
      let turned = ended.turned in
      subst (IsPrefix log) (sym turned.gained.log) (prefix_longer turned.placed (prefix_append log turned.taken))

  phases_turned : Phases apply start own rounds barrier new log_now
  phases_turned =
      let phase = barrier.left in
      let phases = carries.phases in
      let cuts = own_cuts (local_of old log) rounds in
      let handler = handler_of apply start new in
      record {
        left = λ k lt. left_grown old new log log_now same modest grows k (rounds k) (phases.left k lt);
        account =
            account_recut old new log log_now same modest grows rounds phase phases.left handler own (held_letters new)
            (account_turn apply start keeps old new log log_now turn up same ended.turned own cuts phase phases.account);
        places =
            places_recut old new log log_now same modest grows rounds phase phases.left handler own (held_letters new) barrier.first
            (places_turn apply start keeps old new log log_now turn up same ended.turned (own phase) (phase_start cuts phase)
            barrier.first phases.places);
        none_outside = λ outside. omega (
          arith,
          phases.none_outside outside,
          counts_turn apply start keeps old new log log_now turn up same ended.turned,
        );
        none_later = phases.none_later;
      }

  pub carries_turned : Carries apply start own rounds barrier new after
  carries_turned = record {
    stands = stands_turned apply start barrier old new before after turn same ended carries.stands;
    phases = subst (λ h. Phases apply start own rounds barrier new (after.log h)) (sym same.here) phases_turned;
  }

pub carries_still : {C : Type 0} (apply : Applies C) (start : C → C) (own : ℕ → ℕ → List Letter) (rounds : ℕ → ℕ) (barrier : BarrierState)
    (me : Rank C) (here : ℕ) (before after : PostState) →
    me.here ≢ here → SamePost here before after → Carries apply start own rounds barrier me before → Carries apply start own rounds barrier me after
carries_still apply start own rounds barrier me here before after other same carries =
    let log : after.log me.here ≡ before.log me.here = same.other_logs me.here other in
    record {
      stands = stands_unchanged apply start barrier me here before after same log carries.stands;
      phases = subst (Phases apply start own rounds barrier me) (sym log) carries.phases;
    }
