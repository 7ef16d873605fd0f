use Rattle.std.proofs.Common.{refl, true}
use Rattle.term_barrier.specs.declared.polled.Polled.TheVariants.{Left, Waiting as Waits}
use Rattle.term_barrier.proofs.Waited.Outcomes.{barrier_ended, waited_first, waited_more}
use Rattle.term_barrier.proofs.poll_laws.polls_of_a_barrier_add_up.Goals as goal

pub returns-clause-first : goal.returns-clause-first
returns-clause-first g c = waited_first

pub returns-clause-more : goal.returns-clause-more
returns-clause-more g c = λ apply start entered old new one me now before mid after why waited same worked keeps.
    waited_more apply start entered old new one me now before mid after waited why same worked keeps (Waits why) refl

pub returns-clause-ended : goal.returns-clause-ended
returns-clause-ended g c = λ apply start outside old new one me now before mid after number round waited.
    barrier_ended apply start (record outside { inside = true }) old new one me now before mid after waited outside refl
    number round (Left number round) refl
