use Rattle.std.proofs.Common.{true, false, sym, refl, ◌∙◌}
use Rattle.world_core.specs.Trial.{local_tried}
use Rattle.world_core.proofs.Deeds.ControlTable.{count_table}
use Rattle.world_core.proofs.control_rules.refusal_of_count.Goals as goal

pub returns-then-is_count_early : goal.returns-then-is_count_early
returns-then-is_count_early c = λ l is.
    count_table (local_tried c.args.me.now) c.args.q c.args.s c.args.r l is true _ _
    (sym (c.is_count_early.ensures 0 l is.count is.round) ∙ c.if-is_count_early.true) refl refl

pub returns-then-has_to_forward : goal.returns-then-has_to_forward
returns-then-has_to_forward c = λ l is.
    count_table (local_tried c.args.me.now) c.args.q c.args.s c.args.r l is false true _
    (sym (c.is_count_early.ensures 0 l is.count is.round) ∙ c.if-is_count_early.false)
    (sym c.has_to_forward.ensures ∙ c.if-has_to_forward.true) refl

pub returns-then-is_count_wrong : goal.returns-then-is_count_wrong
returns-then-is_count_wrong c = λ l is.
    count_table (local_tried c.args.me.now) c.args.q c.args.s c.args.r l is false false true
    (sym (c.is_count_early.ensures 0 l is.count is.round) ∙ c.if-is_count_early.false)
    (sym c.has_to_forward.ensures ∙ c.if-has_to_forward.false)
    (sym (c.is_count_wrong.ensures 0 l is.count is.sent is.run) ∙ c.if-is_count_wrong.true)

pub returns : goal.returns
returns c = λ l is.
    count_table (local_tried c.args.me.now) c.args.q c.args.s c.args.r l is false false false
    (sym (c.is_count_early.ensures 0 l is.count is.round) ∙ c.if-is_count_early.false)
    (sym c.has_to_forward.ensures ∙ c.if-has_to_forward.false)
    (sym (c.is_count_wrong.ensures 0 l is.count is.sent is.run) ∙ c.if-is_count_wrong.false)
