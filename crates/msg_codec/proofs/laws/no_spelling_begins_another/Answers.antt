use Rattle.msg_codec.proofs.Reading.Apart.{apart}
use Rattle.msg_codec.proofs.laws.no_spelling_begins_another.Goals as goal

pub returns : goal.returns
returns g c v w x y p q e = apart g.W.Wire.reading g.W.Wire.spelled v w x y (g.met.W.Wire.read_again v x p) (g.met.W.Wire.read_again w y q) e
