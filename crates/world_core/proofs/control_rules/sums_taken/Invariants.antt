use Rattle.std.proofs.Common.{◌≡◌, ◌*◌, ◌≤◌}
use Rattle.list_facts.specs.Sums.{sum_upto}
use Rattle.world_core.specs.Counts.{count_taken}
use Rattle.world_core.specs.Rounds.{sums_in}
use Rattle.world_core.proofs.control_rules.sums_taken.Given as goal

abbrev pub invariant-loop-rank : goal.invariant-loop-rank
invariant-loop-rank l = record {
  sent : l.sums.sent ≡ sum_upto (λ rank. (sums_in (count_taken rank l.q l.me.log.now)).sent) l.rank;
  run : l.sums.run ≡ sum_upto (λ rank. (sums_in (count_taken rank l.q l.me.log.now)).run) l.rank;
  few_sent : l.sums.sent ≤ l.rank * 0xffff_ffff_ffff_ffff;
  few_run : l.sums.run ≤ l.rank * 0xffff_ffff_ffff_ffff;
}
