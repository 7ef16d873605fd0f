use Rattle.std.proofs.Common.{rules, None, Ok}
use Rattle.msg_codec.proofs.Reading.Whole.{none_is}
use Rattle.msg_codec.proofs.whole.read_whole.Goals as goal

pub returns-in_default-clause-none : goal.returns-in_default-clause-none
returns-in_default-clause-none g c = none_is {E = Unit {0}} g.W.Wire.reading g.W.Wire.spelled g.W.Wire.in_range g.met.W.Wire.read_again (Ok None) c.args.body.now (search rules)
