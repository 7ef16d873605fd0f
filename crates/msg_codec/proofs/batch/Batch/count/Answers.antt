use Rattle.std.proofs.Common.{arith}
use Rattle.msg_codec.proofs.Placed.Held.{none_counted}
use Rattle.msg_codec.proofs.batch.Batch.count.Goals as goal

pub returns-then-is_empty : goal.returns-then-is_empty
returns-then-is_empty c = none_counted _ _ _ c.self.invariant c.self.view_is (grind arith)
