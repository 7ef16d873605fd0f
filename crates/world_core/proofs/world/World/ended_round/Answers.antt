use Rattle.std.proofs.Common.{◌+◌, ◌≤◌, ◌&&◌, nat_lt, sym, ap, ◌∙◌, arith, le_trans}
use Rattle.list_facts.proofs.Below.{row_within}
use Rattle.world_core.specs.Rounds.{agree}
use Rattle.world_core.specs.Trial.{sums_of}
use Rattle.world_core.specs.Wave.{complete_count, is_complete, sums_at}
use Rattle.world_core.proofs.Rounds.AtRound.{at_ended, at_next, at_start, ends_here}
use Rattle.world_core.proofs.Wave.EndsBarrier.{ends_barrier, found_before}
use Rattle.world_core.proofs.world.World.ended_round.Goals as goal
use Rattle.world_core.proofs.world.World.ended_round.Goals.{then-ends_from+else-ended-k, else-ends_from}

pub loop-q-init : goal.loop-q-init
loop-q-init c = record { walked = at_start (sums_at c.args.self.now) _; not_yet = omega arith }

pub returns-then-ended-k-clause-round : goal.returns-then-ended-k-clause-round
returns-then-ended-k-clause-round c =
    let tried = c.ends_from.ensures ∙ ap (λ n. nat_lt c.loop-q.first n && agree (sums_of c.loop-q.before) (sums_of c.sums_at-sums.result)) c.from.ensures in
    ends_barrier c.args.self.now c.args.k c.requires c.loop-q.q
    (sym (ends_here (sums_at c.args.self.now) c.loop-q.q c.loop-q.first c.loop-q.ended _ _ c.loop-q.invariant.walked c.sums_at-sums.ensures _ tried) ∙ c.if-ends_from.true)
    (sym c.if-ended-k.true ∙ c.loop-q.invariant.walked.ended_is)

pub loop-q-preserved : goal.loop-q-preserved
loop-q-preserved c =
    let tried = c.ends_from.ensures ∙ ap (λ n. nat_lt c.loop-q.first n && agree (sums_of c.loop-q.before) (sums_of c.sums_at-sums.result)) c.from.ensures in
    let at = c.loop-q.invariant.walked in
    elim c.if-ends_from.branch [
      | then-ends_from+else-ended-k w ↦ record {
        walked = at_ended (sums_at c.args.self.now) c.loop-q.q c.loop-q.first c.loop-q.ended _ _ at c.sums_at-sums.ensures _ tried w.if-ends_from.true
            _ _ (w.first-is ∙ ap (λ n. n + 1) w.from-first.ensures) w.ended-is;
        not_yet = omega (arith, w.ended-is, w.if-ended-k.false, c.loop-q.invariant.not_yet);
      }
      | else-ends_from w ↦ record {
        walked = at_next (sums_at c.args.self.now) c.loop-q.q c.loop-q.first c.loop-q.ended _ _ at c.sums_at-sums.ensures _ tried w.if-ends_from.false
            _ _ w.first-is w.ended-is;
        not_yet = omega (arith, w.ended-is, c.loop-q.invariant.not_yet);
      }
    ]

pub returns-clause-round : goal.returns-clause-round
returns-clause-round c =
    let within : complete_count c.args.self.now ≤ c.loop-q.q = le_trans (row_within (is_complete c.args.self.now) _) (omega (arith, c.loop-q-test.false, c.counted-q-end.ensures.counts)) in
    absurd (found_before c.args.self.now c.args.k c.requires c.loop-q.ended c.loop-q.q within c.loop-q.invariant.walked.ended_is c.loop-q.invariant.not_yet)
