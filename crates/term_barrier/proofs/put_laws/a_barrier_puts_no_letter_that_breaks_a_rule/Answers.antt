use Rattle.term_barrier.proofs.Puts.Due.{count_due, total_due}
use Rattle.term_barrier.proofs.put_laws.a_barrier_puts_no_letter_that_breaks_a_rule.Goals as goal

pub returns-clause-count : goal.returns-clause-count
returns-clause-count g c = count_due

pub returns-clause-total : goal.returns-clause-total
returns-clause-total g c = total_due
