use Rattle.term_barrier.proofs.Puts.Agrees.{agrees_count, agrees_total}
use Rattle.term_barrier.proofs.put_laws.a_barrier_that_puts_a_letter_stays_in_agreement.Goals as goal

pub returns-clause-count : goal.returns-clause-count
returns-clause-count c = agrees_count

pub returns-clause-total : goal.returns-clause-total
returns-clause-total c = agrees_total
