use Rattle.comm_rank.proofs.Rank.Sent.{sent_elsewhere, sent_there}
use Rattle.comm_rank.proofs.laws.a_letter_that_is_sent_is_the_last_to_its_destination.Goals as goal

pub returns-clause-last : goal.returns-clause-last
returns-clause-last g c = sent_there

pub returns-clause-others : goal.returns-clause-others
returns-clause-others g c = sent_elsewhere
