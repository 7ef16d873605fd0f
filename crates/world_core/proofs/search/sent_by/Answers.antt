use Rattle.std.proofs.Common.{sym}
use Rattle.world_core.proofs.Pairs.Numbers.{sent_number-nil}
use Rattle.world_core.proofs.search.sent_by.Goals as goal

pub returns-in-Took : goal.returns-in-Took
returns-in-Took c = rw c.in-Took.is (sym (sent_number-nil c.args.rank))
