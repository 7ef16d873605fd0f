use Rattle.msg_codec.proofs.Controls.Letters.{count_is, total_is}
use Rattle.msg_codec.proofs.laws.control_letters_are_these.Goals as goal

pub returns-clause-counts : goal.returns-clause-counts
returns-clause-counts c = count_is

pub returns-clause-totals : goal.returns-clause-totals
returns-clause-totals c = total_is
