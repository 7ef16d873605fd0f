use Rattle.std.proofs.Common.{◌≡◌, ◌*◌, ◌≤◌}
use Rattle.list_facts.specs.Sums.{sum_upto}
use Rattle.world_core.specs.Limits.{most_arrived}
use Rattle.world_core.specs.Pairs.{own_count, run_count}
use Rattle.world_core.specs.Wave.{cut}
use Rattle.world_core.proofs.world.World.sums_at.Given as goal

abbrev pub invariant-loop-rank : goal.invariant-loop-rank
invariant-loop-rank l = record {
  sent : l.sums.sent ≡ sum_upto (λ rank. own_count rank (cut l.self l.q rank)) l.rank;
  run : l.sums.run ≡ sum_upto (λ rank. run_count rank (cut l.self l.q rank)) l.rank;
  few_sent : l.sums.sent ≤ l.rank * most_arrived;
  few_run : l.sums.run ≤ l.rank * most_arrived;
}
