use Rattle.term_barrier.proofs.Barriers.Leaving.{in_range, left_now, left_once, left_outside}
use Rattle.term_barrier.proofs.Barriers.Room.{room}
use Rattle.term_barrier.proofs.laws.a_barrier_has_room_for_what_it_is_handed.Goals as goal

pub returns-clause-room : goal.returns-clause-room
returns-clause-room c = λ barrier kept me range modest agrees. room barrier kept me range modest agrees

pub returns-clause-in_range : goal.returns-clause-in_range
returns-clause-in_range c = in_range

pub returns-clause-left_once : goal.returns-clause-left_once
returns-clause-left_once c = left_once

pub returns-clause-outside : goal.returns-clause-outside
returns-clause-outside c = left_outside

pub returns-clause-has_left : goal.returns-clause-has_left
returns-clause-has_left c = left_now
