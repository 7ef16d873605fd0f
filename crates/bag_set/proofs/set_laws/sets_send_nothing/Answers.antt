use Rattle.bag_set.proofs.Sets.LastLetter.{handed-none}
use Rattle.bag_set.proofs.set_laws.sets_send_nothing.Goals as goal

pub returns : goal.returns
returns c = handed-none
