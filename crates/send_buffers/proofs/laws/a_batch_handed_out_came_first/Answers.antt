use Rattle.send_buffers.proofs.Queued.Counts.{out-count}
use Rattle.send_buffers.proofs.Queued.Order.{out-order}
use Rattle.send_buffers.proofs.laws.a_batch_handed_out_came_first.Goals as goal

pub returns-clause-order : goal.returns-clause-order
returns-clause-order c = λ old new next batch to test routed out only. out-order old new to test routed only next batch out

pub returns-clause-count : goal.returns-clause-count
returns-clause-count c = λ old new next batch test. out-count test old new next batch
