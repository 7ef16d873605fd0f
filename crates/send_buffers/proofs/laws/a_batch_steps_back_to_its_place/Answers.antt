use Rattle.send_buffers.proofs.Queued.Steps.{stepped_back}
use Rattle.send_buffers.proofs.laws.a_batch_steps_back_to_its_place.Goals as goal

pub returns : goal.returns
returns c = stepped_back
