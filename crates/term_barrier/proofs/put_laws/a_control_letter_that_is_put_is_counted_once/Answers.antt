use Rattle.term_barrier.proofs.Puts.Log.{control_letters-put, counts-count, counts-total, is_free-total, run_taken-put, sent_taken-put, totals-count, totals-other, totals-there}
use Rattle.term_barrier.proofs.put_laws.a_control_letter_that_is_put_is_counted_once.Goals as goal

pub returns-clause-count : goal.returns-clause-count
returns-clause-count c = counts-count

pub returns-clause-no_total : goal.returns-clause-no_total
returns-clause-no_total c = totals-count

pub returns-clause-total : goal.returns-clause-total
returns-clause-total c = totals-there

pub returns-clause-other_totals : goal.returns-clause-other_totals
returns-clause-other_totals c = totals-other

pub returns-clause-no_count : goal.returns-clause-no_count
returns-clause-no_count c = counts-total

pub returns-clause-control_letters : goal.returns-clause-control_letters
returns-clause-control_letters c = control_letters-put

pub returns-clause-sums : goal.returns-clause-sums
returns-clause-sums c = λ me to batch q. (sent_taken-put me to batch q, run_taken-put me to batch q)

pub returns-clause-free : goal.returns-clause-free
returns-clause-free c = is_free-total
