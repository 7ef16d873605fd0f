use Rattle.std.proofs.Common.{sym, ◌∙◌}
use Rattle.world_core.specs.Trial.{local_tried}
use Rattle.world_core.proofs.Deeds.Table.{own_while_counted}
use Rattle.world_core.proofs.data_rules.is_sent_while_counted.Goals as goal

pub returns-then-has_own : goal.returns-then-has_own
returns-then-has_own c =
    let whole = own_while_counted (local_tried c.args.me.now) c.args.to c.args.letters.now c.requires.kind in
    sym (rw (sym c.has_own.ensures ∙ c.if-has_own.true, sym c.is_free.ensures) at whole)

pub returns-else-has_own : goal.returns-else-has_own
returns-else-has_own c =
    let whole = own_while_counted (local_tried c.args.me.now) c.args.to c.args.letters.now c.requires.kind in
    c.if-has_own.false ∙ sym (rw (sym c.has_own.ensures ∙ c.if-has_own.false) at whole)
