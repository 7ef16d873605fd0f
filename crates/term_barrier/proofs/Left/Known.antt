-- What a rank knows of a round, from the Totals that it took, is so in a sound world.
use Rattle.std.proofs.Common.{◌≡◌, ℕ, ◌≤◌, ◌<◌, true, is_some, Option, Some, None, refl, sym, ◌∙◌, arith}
use Rattle.list_facts.proofs.Below.{row_passes}
use Rattle.msg_codec.specs.declared.letter.Letter.{Letter}
use Rattle.world_core.specs.Counts.{total_taken}
use Rattle.world_core.specs.Local.{Local}
use Rattle.world_core.specs.Rounds.{rounds_known, sums_in, sums_told}
use Rattle.world_core.specs.Sound.{IsSound}
use Rattle.world_core.specs.Wave.{EndsBarrier, IsComplete, sums_at}
use Rattle.world_core.specs.World.{Logs, local, log_of}
use Rattle.world_core.proofs.Wave.Told.{total_is}
use Rattle.term_barrier.specs.Left.{HasLeft}
use Rattle.term_barrier.proofs.Left.SameSums.{ended_below-same, ends-same}

-- it took the Total of each round that it knows
pub took_total : (me : Local) (q : ℕ) → q < rounds_known me.here me.log → is_some (total_taken me.here q me.log) ≡ true
unfolding rounds_known
took_total me q known = row_passes (λ j. is_some (total_taken me.here j me.log)) _ q known

module _ (world : Logs) (sound : IsSound world) where
  pub known_is_so : (rank q : ℕ) → q < rounds_known rank (log_of world rank) →
      IsComplete world q × (sums_told rank (log_of world rank) q ≡ sums_at world q)
  known_is_so rank q known = by_total (total_taken rank q (log_of world rank)) refl (took_total (local world rank) q known)
    where
      by_total : (o : Option Letter) → total_taken rank q (log_of world rank) ≡ o → is_some o ≡ true → IsComplete world q × (sums_in o ≡ sums_at world q)
      by_total None taken some = absurd cc
      by_total (Some l) taken some =
          let total = total_is world sound.agree sound.rounds.totals rank q l taken in
          (total.complete, rw (total.sent, total.run) refl)

  pub left_ends : (rank barrier round : ℕ) → HasLeft (local world rank) barrier round → EndsBarrier world barrier round
  left_ends rank barrier round left =
      let told = sums_told rank (log_of world rank) in
      let same : (j : ℕ) → j ≤ round → told j ≡ sums_at world j = λ j le. (known_is_so rank j (omega (arith, le, left.known))).1 in
      record {
        complete = (known_is_so rank round left.known).0;
        ends = sym (ends-same told (sums_at world) round same) ∙ left.ended;
        number = sym (ended_below-same told (sums_at world) round (λ j lt. same j (omega (arith, lt)))) ∙ left.number;
      }
