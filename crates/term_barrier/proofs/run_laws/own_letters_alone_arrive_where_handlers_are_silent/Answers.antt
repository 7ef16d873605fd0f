use Rattle.std.proofs.Common.{IsTrue}
use Rattle.term_barrier.proofs.CompleteRun.Silent.{arrived_each, arrived_is_own, arrived_weight, own_of_pair}
use Rattle.term_barrier.proofs.run_laws.own_letters_alone_arrive_where_handlers_are_silent.Goals as goal

pub returns-clause-own : goal.returns-clause-own
returns-clause-own g c = arrived_is_own

pub returns-clause-each : goal.returns-clause-each
returns-clause-each g c = λ apply ranks phases start own arrivals run silent test.
    arrived_each apply ranks phases start own arrivals run silent (λ l. IsTrue (test l))

pub returns-clause-pairs : goal.returns-clause-pairs
returns-clause-pairs g c = own_of_pair

pub returns-clause-weights : goal.returns-clause-weights
returns-clause-weights g c = arrived_weight
