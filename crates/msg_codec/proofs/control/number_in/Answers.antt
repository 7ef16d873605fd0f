use Rattle.std.proofs.Common.{arith}
use Rattle.msg_codec.proofs.Bytes.Slices.{are_bytes}
use Rattle.msg_codec.proofs.control.number_in.Goals as goal

pub returns-clause-bytes : goal.returns-clause-bytes
returns-clause-bytes c = are_bytes c.args.bytes.now (λ i. omega (arith, c.type_inv.bytes i))
