use Rattle.std.proofs.Common.{ℕ, Bool, nat_lt, length, sym, ◌∙◌, arith}
use Rattle.list_facts.proofs.Below.{all_fail, some_at}
use Rattle.world_core.specs.Local.{to_forward}
use Rattle.world_core.specs.Trial.{local_tried}
use Rattle.world_core.proofs.control_rules.holds_from.Goals as goal

pub returns-then-holds_pair : goal.returns-then-holds_pair
returns-then-holds_pair c =
    let test : ℕ → Bool = λ to. nat_lt 0 (length (to_forward (local_tried c.args.me.now) c.args.from to)) in
    sym (some_at test c.args.me.now.layout.now.ranks c.loop-to.to (omega arith) (sym c.holds_pair.ensures ∙ c.if-holds_pair.true))

pub returns : goal.returns
returns c =
    let test : ℕ → Bool = λ to. nat_lt 0 (length (to_forward (local_tried c.args.me.now) c.args.from to)) in
    sym (all_fail test c.args.me.now.layout.now.ranks (λ to h. c.loop-to.invariant to (omega arith)))
