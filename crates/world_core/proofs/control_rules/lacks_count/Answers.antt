use Rattle.std.proofs.Common.{◌≡◌, ℕ, Bool, false, not, is_some, sym, ap, ◌∙◌, arith}
use Rattle.list_facts.proofs.Below.{all_fail, some_at}
use Rattle.world_core.specs.Counts.{count_taken}
use Rattle.world_core.proofs.Counts.NumbersRead.{mapped_some}
use Rattle.world_core.proofs.control_rules.lacks_count.Goals as goal

pub returns-then-is_none : goal.returns-then-is_none
returns-then-is_none c =
    let test : ℕ → Bool = λ rank. not (is_some (count_taken rank c.args.q c.args.me.now.log.now)) in
    let lacks : is_some (count_taken c.loop-rank.rank c.args.q c.args.me.now.log.now) ≡ false =
    sym (mapped_some (count_taken c.loop-rank.rank c.args.q c.args.me.now.log.now)) ∙ ap is_some (sym c.count_taken.ensures) ∙ c.is_none.ensures ∙ ap not c.if-is_none.true in
    sym (some_at test c.args.me.now.layout.now.ranks c.loop-rank.rank (omega arith) (ap not lacks))

pub returns : goal.returns
returns c =
    let test : ℕ → Bool = λ rank. not (is_some (count_taken rank c.args.q c.args.me.now.log.now)) in
    sym (all_fail test c.args.me.now.layout.now.ranks (λ rank h. c.loop-rank.invariant rank (omega arith)))
