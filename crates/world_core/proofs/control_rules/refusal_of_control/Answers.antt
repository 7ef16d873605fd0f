use Rattle.std.proofs.Common.{sym, ◌∙◌}
use Rattle.msg_codec.specs.Letter.{letter_of}
use Rattle.world_core.specs.Trial.{local_tried}
use Rattle.world_core.proofs.Deeds.ControlTable.{uncontrolled, wrong_table}
use Rattle.world_core.proofs.control_rules.refusal_of_control.Goals as goal

pub returns-in-None : goal.returns-in-None
returns-in-None c =
    wrong_table (local_tried c.args.me.now) c.args.to (letter_of c.args.l)
    (uncontrolled (local_tried c.args.me.now) c.args.to (letter_of c.args.l) (sym c.control_of.ensures.exact ∙ c.in-None.is) c.requires)
