-- In a still world, no rank may put a data letter of another rank, and none that put the next Count may put one of its own.
use Rattle.std.proofs.Common.{◌≡◌, ℕ, suc, pred, ◌≤◌, ◌<◌, true, false, nat_eq, eq-eqb, lt-ltb, is_some, [], refl, ap, ◌∙◌, arith}
use Rattle.msg_codec.specs.declared.letter.Letter.{Letter}
use Rattle.world_core.specs.ControlRules.{is_counted, is_idle, sent_while_counted}
use Rattle.world_core.specs.Counts.{before_count, counts, total_taken}
use Rattle.world_core.specs.Local.{Local, having_put, to_forward}
use Rattle.world_core.specs.Pairs.{is_data, run_count}
use Rattle.world_core.specs.Rounds.{barrier_start}
use Rattle.world_core.specs.Rules.{not_held}
use Rattle.world_core.proofs.Counts.AfterPut.{sent_while_counted-put, to_forward-empty}
use Rattle.world_core.proofs.Counts.BeforeCount.{before_part, before_next}
use Rattle.world_core.proofs.Pairs.Numbers.{run_of_prefix}
use Rattle.world_core.proofs.Rounds.BarrierStart.{start_within}

-- one rank, where its world is still since round q, and the next round isn't complete
pub record IsFrozen (me : Local) (q : ℕ) : Type 0 where
  pub idle : run_count me.here me.log ≡ run_count me.here (before_count q me.log)
  pub forwarded : (s d : ℕ) → to_forward me s d ≡ []
  pub untold : is_some (total_taken me.here (suc q) me.log) ≡ false
  pub few_counts : counts me.log ≤ suc (suc q)

module _ (me : Local) (to q : ℕ) (frozen : IsFrozen me q) where
  -- a rank that put Count q + 1 is in the barrier of that round, and ran nothing since
  module _ (after : suc q < counts me.log) where
    last : counts me.log ≡ suc (suc q)
    last = omega (arith, after, frozen.few_counts)

    counted : is_counted me ≡ true
    counted =
        let start : barrier_start me.here me.log ≤ suc q = start_within me.here (suc q) me.log frozen.untold in
        lt-ltb _ _ (omega (arith, start, last))

    idle : is_idle me ≡ true
    idle =
        let cut : run_count me.here (before_count (pred (counts me.log)) me.log) ≡ run_count me.here (before_count (suc q) me.log) =
        ap (λ n. run_count me.here (before_count (pred n) me.log)) last in
        let low = run_of_prefix me.here (before_next q me.log) in
        let high = run_of_prefix me.here (before_part (suc q) me.log) in
        eq-eqb _ _ (omega (arith, frozen.idle, cut, low, high))

  pub own_refused : (l : Letter) → is_data l ≡ true → nat_eq l.from me.here ≡ true → suc q < counts me.log →
      sent_while_counted (having_put me to []) to l ≡ true
  own_refused l tag own after = sent_while_counted-put me to [] refl l ∙ rw (tag, own, counted after, idle after) refl

  pub other_refused : (l : Letter) → is_data l ≡ true → nat_eq l.from me.here ≡ false → not_held (having_put me to []) to l ≡ true
  other_refused l tag other = rw (tag, other, to_forward-empty me to l.from l.to ∙ frozen.forwarded l.from l.to) refl
