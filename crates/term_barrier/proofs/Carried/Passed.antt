-- Ranks that have left all barriers, and carry their phases, have passed them.
use Rattle.std.proofs.Common.{◌≡◌, ℕ, ◌<◌, [], subst, arith}
use Rattle.world_core.specs.Local.{Local}
use Rattle.world_core.specs.Modest.{IsModest}
use Rattle.world_core.specs.Post.{PostState}
use Rattle.world_core.specs.Sound.{IsSound}
use Rattle.world_core.specs.World.{Logs, local, log_of}
use Rattle.comm_rank.specs.Fold.{Applies}
use Rattle.comm_rank.specs.Rank.{Rank, held_letters}
use Rattle.term_barrier.specs.Account.{Account, RankHandler, handler_at}
use Rattle.term_barrier.specs.Barriers.{BarrierState}
use Rattle.term_barrier.specs.Carried.{AllCarry, own_cuts}
use Rattle.term_barrier.specs.CompleteRun.{OwnLetters}
use Rattle.term_barrier.specs.Cuts.{AreQuietCuts}
use Rattle.term_barrier.specs.Left.{HasLeft, HaveLeft, left_cuts}
use Rattle.term_barrier.specs.Passed.{HasPassed}
use Rattle.term_barrier.specs.SilentRun.{HavePassed}
use Rattle.term_barrier.proofs.Left.QuietCuts.{quiet_cuts}
use Rattle.term_barrier.proofs.Passed.FromWorld.{from_ranks, took_prefixes}

module _ {C : Type 0} (apply : Applies C) (start : C → C) (world : Logs) (barriers : ℕ) (own : OwnLetters) (rounds : ℕ → ℕ → ℕ)
    (states : ℕ → BarrierState) (members : ℕ → Rank C) (posts : ℕ → PostState)
    (all : AllCarry apply start world barriers own rounds states members posts) where
  pub have_left : HaveLeft world barriers rounds
  have_left rank barrier within below =
      subst (λ (l : Local). HasLeft l barrier (rounds rank barrier)) (all.of_world rank within)
      ((all.each rank within).phases.left barrier (omega (arith, below, all.left rank within)))

  pub quiet_all : IsSound world → AreQuietCuts world.layout.ranks barriers (log_of world) (left_cuts world rounds)
  quiet_all sound = quiet_cuts world barriers rounds sound have_left

  -- what a rank starts from
  abbrev begin : ℕ → C
  begin one = start (members one).contents

  pub has_passed : (rank : ℕ) → rank < world.layout.ranks →
      HasPassed (handler_at apply world.layout.ranks begin rank) (own rank) (left_cuts world rounds rank) barriers
      (held_letters (members rank)) (log_of world rank)
  has_passed rank within =
      let carries = all.each rank within in
      let held = held_letters (members rank) in
      let place = all.of_world rank within in
      let handler_in : Local → RankHandler C = λ l. record { apply = apply; start = begin rank; here = l.here; ranks = l.layout.ranks } in
      let there : Account (handler_in (local world rank)) (own rank) (left_cuts world rounds rank) (states rank).left held (log_of world rank) =
      subst (λ (l : Local). Account (handler_in l) (own rank) (own_cuts l (rounds rank)) (states rank).left held l.log) place carries.phases.account in
      record {
        account = subst (λ n. Account (handler_in (local world rank)) (own rank) (left_cuts world rounds rank) n held (log_of world rank))
            (all.left rank within) there;
        senders = from_ranks (local world rank) (subst IsModest place carries.stands.belongs.agrees.modest);
      }

  pub have_passed : IsSound world → ((rank to : ℕ) → rank < world.layout.ranks → own rank barriers to ≡ []) →
      HavePassed apply world.layout.ranks barriers begin own (left_cuts world rounds) (λ one. held_letters (members one)) (log_of world)
  have_passed sound none = record { each = has_passed; none_since = none; quiet = quiet_all sound; took = took_prefixes world sound }
