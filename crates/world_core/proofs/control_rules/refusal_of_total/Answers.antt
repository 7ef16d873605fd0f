use Rattle.std.proofs.Common.{true, false, sym, refl, ◌∙◌}
use Rattle.world_core.specs.Trial.{local_tried}
use Rattle.world_core.proofs.Deeds.ControlTable.{total_table}
use Rattle.world_core.proofs.control_rules.refusal_of_total.Goals as goal

pub returns-then-is_total_early : goal.returns-then-is_total_early
returns-then-is_total_early c = λ l is.
    total_table (local_tried c.args.me.now) c.requires c.args.to c.args.q c.args.s c.args.r l is true _
    (sym (c.is_total_early.ensures l is.total is.round) ∙ c.if-is_total_early.true) refl

pub returns-then-is_total_wrong : goal.returns-then-is_total_wrong
returns-then-is_total_wrong c = λ l is.
    total_table (local_tried c.args.me.now) c.requires c.args.to c.args.q c.args.s c.args.r l is false true
    (sym (c.is_total_early.ensures l is.total is.round) ∙ c.if-is_total_early.false)
    (sym (c.is_total_wrong.ensures c.args.to l is.total is.round is.sent is.run) ∙ c.if-is_total_wrong.true)

pub returns : goal.returns
returns c = λ l is.
    total_table (local_tried c.args.me.now) c.requires c.args.to c.args.q c.args.s c.args.r l is false false
    (sym (c.is_total_early.ensures l is.total is.round) ∙ c.if-is_total_early.false)
    (sym (c.is_total_wrong.ensures c.args.to l is.total is.round is.sent is.run) ∙ c.if-is_total_wrong.false)
