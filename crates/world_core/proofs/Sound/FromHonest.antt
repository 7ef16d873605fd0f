-- Honest logs that agree about each link, and whose rounds say what is so, make a sound world.
use Rattle.list_facts.proofs.Elements.{all_weaker}
use Rattle.world_core.specs.Sound.{IsOnPath, IsSound}
use Rattle.world_core.specs.Wave.{AreRounds}
use Rattle.world_core.specs.World.{Logs}
use Rattle.world_core.proofs.Local.Between.{between}
use Rattle.world_core.proofs.Sound.AlongPath.{got_prefix}
use Rattle.world_core.proofs.Sound.OnPath.{Base, alone, carried_put, carried_taken}

pub is_sound : (world : Logs) → Base world → AreRounds world → IsSound world
is_sound world base rounds = record {
  laid_out = base.laid_out;
  all_ranks = base.all_ranks;
  agree = base.agree;
  honest = base.honest;
  got = got_prefix world base;
  forwarded = λ s d r h. (alone world base r).forward s d (between world.layout world.scheme s d r h);
  put_on_path = λ a b. all_weaker _ (IsOnPath world.layout world.scheme a b) _ (λ l c tag. c.crossed tag) (carried_put world base a b);
  taken_on_path = λ a b. all_weaker _ (IsOnPath world.layout world.scheme a b) _ (λ l c tag. c.crossed tag) (carried_taken world base a b);
  rounds = rounds;
}
