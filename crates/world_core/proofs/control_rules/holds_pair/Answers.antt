use Rattle.std.proofs.Common.{◌≡◌, false, nat_lt, lt-ltb, length, sym, ap, ◌∙◌}
use Rattle.world_core.specs.Pairs.{pair_put}
use Rattle.world_core.specs.Trial.{local_tried}
use Rattle.world_core.proofs.Local.ToForward.{forwards_between, forwards_nothing, forwards_some, may_forward, no_own, none_for_itself}
use Rattle.world_core.proofs.control_rules.holds_pair.Goals as goal
use Rattle.world_core.proofs.control_rules.holds_pair.Goals.{then-from-me-via-then-from-me, then-from-me-via-else-from-me+then-to-me}

pub returns-then-from-me : goal.returns-then-from-me
returns-then-from-me c =
    let me = local_tried c.args.me.now in
    let none : may_forward me c.args.from c.args.to ≡ false =
    elim c.then-from-me.branch [
      | then-from-me-via-then-from-me w ↦ no_own me c.args.from c.args.to w.if-from-me.true
      | then-from-me-via-else-from-me+then-to-me w ↦ none_for_itself me c.args.from c.args.to w.if-to-me.true
    ] in
    sym (forwards_nothing me c.args.from c.args.to none)

pub returns : goal.returns
returns c =
    let me = local_tried c.args.me.now in
    let may = forwards_between me c.args.from c.args.to (lt-ltb _ _ c.requires.from_within) (lt-ltb _ _ c.requires.to_within)
    (λ e. c.if-from-me.false (sym e)) (λ e. c.if-to-me.false (sym e)) in
    ap (λ n. nat_lt n c.pair_taken_count.result) c.pair_put_count.ensures.value
    ∙ ap (λ n. nat_lt (length (pair_put c.args.from c.args.to me.log)) n) c.pair_taken_count.ensures
    ∙ forwards_some me c.args.from c.args.to may
