use Rattle.std.proofs.Common.{arith}
use Rattle.msg_codec.proofs.Controls.Body.{letter_fits}
use Rattle.msg_codec.proofs.control.encoded_with.Goals as goal

pub returns-clause-fits : goal.returns-clause-fits
returns-clause-fits c = letter_fits c.args.to c.args.from c.args.tag c.args.q c.args.s c.args.r (omega arith) (omega arith) (omega arith)
