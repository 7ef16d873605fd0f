-- A suffix of a suffix is one.
use Rattle.std.proofs.Common.{[], ◌++◌}
use Rattle.ygm_io.specs.Content.{ExposedBytes}
use Rattle.ygm_run.specs.Inputs.{IsRest}
use Rattle.line_input.proofs.Turns.ToCome.{taken_more, taken_none}

pub rest_none : (left : ExposedBytes) → IsRest left left
rest_none left = ([], taken_none left)

pub rest_more : (a b c : ExposedBytes) → IsRest a b → IsRest b c → IsRest a c
rest_more a b c (f, p) (g, q) = (f ++ g, taken_more f g a b c p q)
