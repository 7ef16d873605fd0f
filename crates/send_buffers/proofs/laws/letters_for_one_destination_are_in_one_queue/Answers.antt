use Rattle.send_buffers.proofs.Queued.Order.{in_one_queue}
use Rattle.send_buffers.proofs.laws.letters_for_one_destination_are_in_one_queue.Goals as goal

pub returns : goal.returns
returns c = in_one_queue
