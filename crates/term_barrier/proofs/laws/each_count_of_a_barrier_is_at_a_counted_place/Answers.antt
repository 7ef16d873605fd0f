use Rattle.term_barrier.proofs.CountedPlace.Left.{places_later, places_none}
use Rattle.term_barrier.proofs.CountedPlace.Polled.{places_poll, places_turn}
use Rattle.term_barrier.proofs.laws.each_count_of_a_barrier_is_at_a_counted_place.Goals as goal

pub returns-clause-none : goal.returns-clause-none
returns-clause-none g c = places_none

pub returns-clause-polled : goal.returns-clause-polled
returns-clause-polled g c = λ own cut phase first old new before after turn up same polled.
    places_poll g.H.Handler.apply g.H.Handler.start g.met.H.Handler.keeps_start old new before after turn up same polled own cut phase first

pub returns-clause-later : goal.returns-clause-later
returns-clause-later g c = places_later

pub returns-clause-turned : goal.returns-clause-turned
returns-clause-turned g c = λ own begin first old new before after turn up same turned.
    places_turn g.H.Handler.apply g.H.Handler.start g.met.H.Handler.keeps_start old new before after turn up same turned own begin first
