use Rattle.std.proofs.Common.{arith}
use Rattle.msg_codec.proofs.encoding.header_of.Goals as goal

pub returns-clause-fits : goal.returns-clause-fits
returns-clause-fits c = record {
  to_fits = omega arith;
  from_fits = omega arith;
  tag_fits = omega arith;
  body_short = c.args.letter.now.short;
  bytes_fit = c.length_field-len.ensures.bytes;
}
