use Rattle.std.proofs.Common.{add-one, refl, ap, arith}
use Rattle.list_facts.specs.Sums.{sum_upto}
use Rattle.world_core.specs.Pairs.{own_count, run_count}
use Rattle.world_core.specs.Wave.{cut}
use Rattle.world_core.proofs.Wave.FewBefore.{read_before}
use Rattle.world_core.proofs.world.World.sums_at.Goals as goal

pub overflow_add-sums : goal.overflow_add-sums
overflow_add-sums c =
    let read = read_before c.args.self.now c.log-log.ensures.sound c.loop-rank.rank c.args.q _ _ c.log-log.result.now
    (omega (arith, c.ranks-rank-end.ensures.value, c.loop-rank-test.true)) c.log-log.ensures.log c.own_before.ensures refl in
    omega (arith, read.few_sent, c.loop-rank.invariant.few_sent, c.loop-rank-test.true, c.ranks-rank-end.ensures.few)

pub overflow_add-sums-in-loop-rank : goal.overflow_add-sums-in-loop-rank
overflow_add-sums-in-loop-rank c =
    let read = read_before c.args.self.now c.log-log.ensures.sound c.loop-rank.rank c.args.q _ _ c.log-log.result.now
    (omega (arith, c.ranks-rank-end.ensures.value, c.loop-rank-test.true)) c.log-log.ensures.log c.own_before.ensures c.run_before.ensures in
    omega (arith, read.few_run, c.loop-rank.invariant.few_run, c.loop-rank-test.true, c.ranks-rank-end.ensures.few)

pub loop-rank-preserved : goal.loop-rank-preserved
loop-rank-preserved c =
    let world = c.args.self.now in
    let rank = c.loop-rank.rank in
    let read = read_before world c.log-log.ensures.sound rank c.args.q _ _ c.log-log.result.now
    (omega (arith, c.ranks-rank-end.ensures.value, c.loop-rank-test.true)) c.log-log.ensures.log c.own_before.ensures c.run_before.ensures in
    record {
      sent = omega (arith, c.loop-rank.invariant.sent, read.sent_is, ap (sum_upto (λ r. own_count r (cut world c.args.q r))) (add-one rank));
      run = omega (arith, c.loop-rank.invariant.run, read.run_is, ap (sum_upto (λ r. run_count r (cut world c.args.q r))) (add-one rank));
      few_sent = omega (arith, c.loop-rank.invariant.few_sent, read.few_sent);
      few_run = omega (arith, c.loop-rank.invariant.few_run, read.few_run);
    }
