use Rattle.std.proofs.Common.{sym}
use Rattle.world_core.proofs.Pairs.Numbers.{run_number-nil}
use Rattle.world_core.proofs.search.run_by.Goals as goal

pub returns-in-Put : goal.returns-in-Put
returns-in-Put c = rw c.in-Put.is (sym (run_number-nil c.args.rank))
