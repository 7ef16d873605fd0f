use Rattle.std.proofs.Common.{sym, ◌∙◌}
use Rattle.msg_codec.specs.Control.{is_control}
use Rattle.msg_codec.specs.Letter.{letter_of}
use Rattle.list_facts.proofs.Tests.{any_none}
use Rattle.world_core.proofs.control_letters.has_control.Goals as goal

pub loop-k-preserved : goal.loop-k-preserved
loop-k-preserved c =
    any_none is_control c.args.letters.now c.loop-k.k (letter_of c.letter_at.result) c.letter_at.ensures
    (sym c.is_control.ensures ∙ c.if-is_control.false) c.loop-k.invariant
