use Rattle.term_barrier.proofs.CountedPlace.Put.{counted_put}
use Rattle.term_barrier.proofs.laws.a_count_with_nothing_held_is_at_a_counted_place.Goals as goal

pub returns : goal.returns
returns g c = λ handler own cut phase held log entries none moves account.
    counted_put handler held log entries moves own cut phase none account
