use Rattle.std.proofs.Common.{refl}
use Rattle.world_core.specs.Pairs.{for_rank}
use Rattle.comm_rank.proofs.Agrees.Arrived.{ran_is}
use Rattle.comm_rank.proofs.laws.what_ran_is_what_came_without_what_waits.Goals as goal

pub returns : goal.returns
returns g c = λ me log run came. ran_is me log run (for_rank me.here me.waiting) came refl
