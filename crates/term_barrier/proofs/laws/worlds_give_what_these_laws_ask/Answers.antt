use Rattle.term_barrier.proofs.Passed.FromWorld.{from_ranks, quiet_round, took_prefixes}
use Rattle.term_barrier.proofs.laws.worlds_give_what_these_laws_ask.Goals as goal

pub returns-clause-quiet : goal.returns-clause-quiet
returns-clause-quiet c = quiet_round

pub returns-clause-took : goal.returns-clause-took
returns-clause-took c = took_prefixes

pub returns-clause-senders : goal.returns-clause-senders
returns-clause-senders c = from_ranks
