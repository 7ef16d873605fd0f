use Rattle.term_barrier.proofs.Puts.HonestCount.{honest_count}
use Rattle.term_barrier.proofs.put_laws.a_count_of_an_idle_rank_is_honest.Goals as goal

pub returns : goal.returns
returns c = honest_count
