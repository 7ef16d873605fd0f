use Rattle.std.proofs.Common.{◌≡◌, ℕ, suc, ◌<◌, ◌≤◌, ap, arith, ◌∙◌}
use Rattle.list_facts.specs.Sums.{sum_upto}
use Rattle.world_core.specs.Limits.{most_arrived}
use Rattle.world_core.specs.Rounds.{Sums}
use Rattle.term_barrier.specs.Barriers.{BarrierState, heard_of, sums_heard_at}
use Rattle.term_barrier.proofs.Sums.{sum_upto-fewer}
use Rattle.term_barrier.proofs.barrier.Barrier.round_sums.Goals as goal

pub overflow_add-sent : goal.overflow_add-sent
overflow_add-sent c =
    let sent : ℕ → ℕ = λ from. (sums_heard_at c.args.self.now.over (heard_of c.args.self.now from)).sent in
    let within : c.loop-rank.rank < c.args.self.now.layout.ranks =
    omega (arith, c.loop-rank-test.true, c.ranks-rank-end.ensures.value, ap (λ (b : BarrierState). b.layout.ranks) c.self.view_is) in
    let this : c.sums.inside.sent ≡ sent c.loop-rank.rank = ap (λ (s : Sums). s.sent) (c.sums.view_is ∙ c.heard_sums-sums.ensures) in
    let so_far : c.loop-rank.sent ≡ sum_upto sent c.loop-rank.rank = c.loop-rank.invariant.sent_so_far in
    let within_all : sum_upto sent (suc c.loop-rank.rank) ≤ sum_upto sent c.args.self.now.layout.ranks =
    sum_upto-fewer sent (suc c.loop-rank.rank) c.args.self.now.layout.ranks (omega (arith, within)) in
    let few : sum_upto sent c.args.self.now.layout.ranks ≤ most_arrived = c.requires.few in
    omega (arith, few, so_far, this, within_all)

pub overflow_add-run : goal.overflow_add-run
overflow_add-run c =
    let run : ℕ → ℕ = λ from. (sums_heard_at c.args.self.now.over (heard_of c.args.self.now from)).run in
    let within : c.loop-rank.rank < c.args.self.now.layout.ranks =
    omega (arith, c.loop-rank-test.true, c.ranks-rank-end.ensures.value, ap (λ (b : BarrierState). b.layout.ranks) c.self.view_is) in
    let this : c.sums.inside.run ≡ run c.loop-rank.rank = ap (λ (s : Sums). s.run) (c.sums.view_is ∙ c.heard_sums-sums.ensures) in
    let so_far : c.loop-rank.run ≡ sum_upto run c.loop-rank.rank = c.loop-rank.invariant.run_so_far in
    let within_all : sum_upto run (suc c.loop-rank.rank) ≤ sum_upto run c.args.self.now.layout.ranks =
    sum_upto-fewer run (suc c.loop-rank.rank) c.args.self.now.layout.ranks (omega (arith, within)) in
    let few : sum_upto run c.args.self.now.layout.ranks ≤ most_arrived = c.requires.few_run in
    omega (arith, few, so_far, this, within_all)
