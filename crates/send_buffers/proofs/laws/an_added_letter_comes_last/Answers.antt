use Rattle.send_buffers.proofs.Queued.Counts.{added-count}
use Rattle.send_buffers.proofs.Queued.Order.{added-order}
use Rattle.send_buffers.proofs.laws.an_added_letter_comes_last.Goals as goal

pub returns-clause-order : goal.returns-clause-order
returns-clause-order c = λ held l queues to test routed ranks is only. added-order held to test routed only l queues ranks is

pub returns-clause-count : goal.returns-clause-count
returns-clause-count c = λ held l queues test. added-count test held l queues
