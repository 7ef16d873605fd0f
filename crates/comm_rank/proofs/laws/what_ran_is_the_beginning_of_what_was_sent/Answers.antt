use Rattle.world_core.specs.World.{log_of}
use Rattle.comm_rank.proofs.Rank.RanFrom.{ran_begins}
use Rattle.comm_rank.proofs.laws.what_ran_is_the_beginning_of_what_was_sent.Goals as goal

pub returns : goal.returns
returns g c = λ world sender me sound s d. ran_begins sender me (log_of world sender.here) (log_of world me.here) (sound.got sender.here me.here)
