use Rattle.std.proofs.Common.{◌≤◌}
use Rattle.world_core.specs.Trial.{sums_of}
use Rattle.world_core.specs.Wave.{sums_at}
use Rattle.world_core.proofs.Rounds.AtRound.{AtRound}
use Rattle.world_core.proofs.world.World.ended_round.Given as goal

abbrev pub invariant-loop-q : goal.invariant-loop-q
invariant-loop-q l = record {
  walked : AtRound (sums_at l.self) l.q l.first l.ended (sums_of l.before);
  not_yet : l.ended ≤ l.k;
}
