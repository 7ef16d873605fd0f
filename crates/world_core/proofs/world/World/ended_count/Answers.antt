use Rattle.std.proofs.Common.{◌+◌, ◌&&◌, nat_lt, below_more, sym, ap, ◌∙◌, arith}
use Rattle.world_core.specs.Rounds.{agree}
use Rattle.world_core.specs.Trial.{sums_of}
use Rattle.world_core.specs.Wave.{sums_at}
use Rattle.world_core.proofs.Rounds.AtRound.{at_ended, at_next, at_start}
use Rattle.world_core.proofs.Wave.EndsBarrier.{count_is}
use Rattle.world_core.proofs.world.World.ended_count.Goals as goal
use Rattle.world_core.proofs.world.World.ended_count.Goals.{then-ends_from, else-ends_from}

pub loop-q-init : goal.loop-q-init
loop-q-init c = record { walked = at_start (sums_at c.args.self.now) _; complete = λ j h. absurd (omega arith) }

pub returns-then-not-is_complete-clause-ended : goal.returns-then-not-is_complete-clause-ended
returns-then-not-is_complete-clause-ended c =
    count_is c.args.self.now c.loop-q.q c.loop-q.ended (omega (arith, c.loop-q-test.true, c.counted-q-end.ensures.counts)) c.loop-q.invariant.complete
    (λ h. sym c.is_complete.ensures ∙ c.if-not-is_complete.true) c.loop-q.invariant.walked.ended_is

pub loop-q-preserved : goal.loop-q-preserved
loop-q-preserved c =
    let tried = c.ends_from.ensures ∙ ap (λ n. nat_lt c.loop-q.first n && agree (sums_of c.loop-q.before) (sums_of c.sums_at-sums.result)) c.from.ensures in
    let at = c.loop-q.invariant.walked in
    let complete = below_more _ _ c.loop-q.invariant.complete (sym c.is_complete.ensures ∙ c.if-not-is_complete.false) in
    elim c.if-ends_from.branch [
      | then-ends_from w ↦ record {
        walked = at_ended (sums_at c.args.self.now) c.loop-q.q c.loop-q.first c.loop-q.ended _ _ at c.sums_at-sums.ensures _ tried w.if-ends_from.true
            _ _ (w.first-is ∙ ap (λ n. n + 1) w.from-first.ensures) w.ended-is;
        complete = complete;
      }
      | else-ends_from w ↦ record {
        walked = at_next (sums_at c.args.self.now) c.loop-q.q c.loop-q.first c.loop-q.ended _ _ at c.sums_at-sums.ensures _ tried w.if-ends_from.false
            _ _ w.first-is w.ended-is;
        complete = complete;
      }
    ]

pub returns-clause-ended : goal.returns-clause-ended
returns-clause-ended c =
    count_is c.args.self.now c.loop-q.q c.loop-q.ended (omega (arith, c.counted-q-end.ensures.counts, c.loop-q.auto.q-end)) c.loop-q.invariant.complete
    (λ h. absurd (omega (arith, h, c.loop-q-test.false, c.counted-q-end.ensures.counts))) c.loop-q.invariant.walked.ended_is
