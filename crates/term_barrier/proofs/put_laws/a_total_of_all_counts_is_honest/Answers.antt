use Rattle.term_barrier.proofs.Puts.HonestTotal.{honest_total}
use Rattle.term_barrier.proofs.put_laws.a_total_of_all_counts_is_honest.Goals as goal

pub returns : goal.returns
returns c = honest_total
