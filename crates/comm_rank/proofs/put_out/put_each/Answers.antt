use Rattle.std.proofs.Common.{IfErr, rules, ◌+◌, Bool, ◌++◌, ◌∙◌, sym, subst, arith, length-append}
use Rattle.std.proofs.lemmas.Result.{IfErr-weaker}
use Rattle.comm_rank.specs.Moves.{PutUntil, PutsFailed}
use Rattle.comm_rank.specs.Turns.{FirstFull}
use Rattle.comm_rank.proofs.Moves.EachRank.{Below, first_next, first_next_full, later_next, none_next, none_or_full_next, some_full}
use Rattle.comm_rank.proofs.Moves.OnePut.{moved_then}
use Rattle.comm_rank.proofs.put_out.put_each.Goals as goal
use Rattle.comm_rank.proofs.put_out.put_each.Goals.{then-placed, else-placed}

pub returns-in_err-placed-clause-failed : goal.returns-in_err-placed-clause-failed
returns-in_err-placed-clause-failed g c =
    let before = c.args.held.now in
    let old = g.P.Post.state c.args.post.now in
    let mid = g.P.Post.state c.loop-to.post in
    let new = g.P.Post.state c.put_to.new.post in
    let i = c.loop-to.invariant in
    let there : IfErr c.from_residual.result (PutsFailed c.loop-to.held c.put_to.new.held mid new) = search rules in
    IfErr-weaker c.from_residual.result _ _
    (λ fault f. record { placed = i.placed ++ f.placed; moved = moved_then before c.loop-to.held c.put_to.new.held old mid new i.placed f.placed i.moved f.moved; no_memory = f.no_memory }) there

pub loop-to-preserved : goal.loop-to-preserved
loop-to-preserved g c =
    let to = c.loop-to.to in
    let a = c.loop-to.held.queues in
    let b = c.put_to.new.held.queues in
    let old = g.P.Post.state c.args.post.now in
    let mid = g.P.Post.state c.loop-to.post in
    let new = g.P.Post.state c.put_to.new.post in
    let p = c.in_ok-placed.ensures.put in
    let i = c.loop-to.invariant in
    let full = c.in_ok-placed.placed.full in
    let until = p.until in
    let others = c.put_to.ensures.others in
    let Q : Bool → Type 0 = λ t. PutUntil t to b mid new in
    let first : FirstFull c.args.ranks b old new c.if-placed.full × Below (to + 1) c.if-placed.full = elim c.if-placed.branch [
      | then-placed w ↦ first_next_full to a b old mid new others i.later c.args.ranks c.loop-to.full c.if-placed.full c.loop-to-test.true (subst Q w.if-placed.true until) i.first i.below (w.full-is ∙ w.or-full.ensures)
      | else-placed w ↦ first_next to a b old mid new others i.later c.args.ranks c.loop-to.full c.if-placed.full (subst Q w.if-placed.false until) i.first i.below w.full-is
    ] in
    record {
      placed = i.placed ++ p.placed;
      moved = moved_then c.args.held.now c.loop-to.held c.put_to.new.held old mid new i.placed p.placed i.moved p.moved;
      count = omega (arith, c.saturating_add-put.ensures, i.count, p.count, length-append i.placed p.placed);
      done = none_or_full_next to a b old mid new others i.later full until i.done;
      later = later_next to a b old mid new others i.later full until;
      first = first.0;
      below = first.1;
      none = elim c.if-placed.branch [
        | then-placed w ↦ λ is. absurd (some_full c.loop-to.full to (sym (w.full-is ∙ w.or-full.ensures) ∙ is))
        | else-placed w ↦ λ is. none_next to a b old mid new others i.later (subst Q w.if-placed.false until) (i.none (sym w.full-is ∙ is))
      ];
    }
