-- That there is no other path is the lemma itself.
use Rattle.ygm_route.proofs.Path.OnlyOne.{path_is_only_path}
use Rattle.ygm_route.proofs.laws.one_path_leads_to_each_rank.Goals as goal

pub returns-clause-no_other : goal.returns-clause-no_other
returns-clause-no_other c = path_is_only_path
