use Rattle.std.proofs.Common.{◌≡◌, ℕ, ◌<◌, true}
use Rattle.world_core.specs.Trial.{sums_of}
use Rattle.world_core.specs.Wave.{is_complete, sums_at}
use Rattle.world_core.proofs.Rounds.AtRound.{AtRound}
use Rattle.world_core.proofs.world.World.ended_count.Given as goal

abbrev pub invariant-loop-q : goal.invariant-loop-q
invariant-loop-q l = record {
  walked : AtRound (sums_at l.self) l.q l.first l.ended (sums_of l.before);
  complete : (j : ℕ) → j < l.q → is_complete l.self j ≡ true;
}
