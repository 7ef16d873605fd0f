use Rattle.bag_set.proofs.Bags.Turns.{goes_apart, goes_round}
use Rattle.bag_set.proofs.bag_laws.items_go_round.Goals as goal

pub returns-clause-turn : goal.returns-clause-turn
returns-clause-turn c = goes_round

pub returns-clause-apart : goal.returns-clause-apart
returns-clause-apart c = goes_apart
