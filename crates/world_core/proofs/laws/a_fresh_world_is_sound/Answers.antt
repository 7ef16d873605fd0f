use Rattle.world_core.proofs.Modest.EachEvent.{fresh_is_world}
use Rattle.world_core.proofs.laws.a_fresh_world_is_sound.Goals as goal

pub returns : goal.returns
returns c = fresh_is_world
