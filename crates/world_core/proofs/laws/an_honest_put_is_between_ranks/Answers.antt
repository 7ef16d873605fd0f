use Rattle.world_core.proofs.Deeds.Unbroken.{unbroken, receiver_within, sender_within}
use Rattle.world_core.proofs.laws.an_honest_put_is_between_ranks.Goals as goal

pub returns : goal.returns
returns c me to letters ok = let ranks = (unbroken me to letters ok).ranks in (sender_within me to letters ranks, receiver_within me to letters ranks)
