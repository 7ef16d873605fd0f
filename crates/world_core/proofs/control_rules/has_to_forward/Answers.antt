use Rattle.std.proofs.Common.{ℕ, Bool, nat_lt, length, sym, ◌∙◌, below_more, arith}
use Rattle.list_facts.specs.Below.{some_below}
use Rattle.list_facts.proofs.Below.{all_fail, some_at}
use Rattle.world_core.specs.Local.{to_forward}
use Rattle.world_core.specs.Trial.{local_tried}
use Rattle.world_core.proofs.control_rules.has_to_forward.Goals as goal

pub returns-then-holds_from : goal.returns-then-holds_from
returns-then-holds_from c =
    let test : ℕ → Bool = λ from. some_below (λ to. nat_lt 0 (length (to_forward (local_tried c.args.me.now) from to))) c.args.me.now.layout.now.ranks in
    sym (some_at test c.args.me.now.layout.now.ranks c.loop-from.from (omega arith) (sym c.holds_from.ensures ∙ c.if-holds_from.true))

pub loop-from-preserved : goal.loop-from-preserved
loop-from-preserved c = below_more _ _ c.loop-from.invariant (sym c.holds_from.ensures ∙ c.if-holds_from.false)

pub returns : goal.returns
returns c =
    let test : ℕ → Bool = λ from. some_below (λ to. nat_lt 0 (length (to_forward (local_tried c.args.me.now) from to))) c.args.me.now.layout.now.ranks in
    sym (all_fail test c.args.me.now.layout.now.ranks (λ from h. c.loop-from.invariant from (omega arith)))
