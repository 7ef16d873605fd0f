use Rattle.std.proofs.Common.{IfErr, [], ◌++◌, refl, ◌∙◌, arith, length-append, rules}
use Rattle.std.proofs.lemmas.List.{nil_from_length}
use Rattle.std.proofs.lemmas.Result.{IfErr-weaker}
use Rattle.comm_rank.specs.Moves.{PutsFailed}
use Rattle.comm_rank.proofs.Moves.OnePut.{count_of_none, count_of_one, found_full_at_last, keeps_none, moved_none, moved_then, others_then, puts_one}
use Rattle.comm_rank.proofs.put_out.put_to.Goals as goal

pub loop-k-init : goal.loop-k-init
loop-k-init g c = record {
  placed = [];
  moved = moved_none c.args.held.now c.args.held.now _ _ refl refl refl (keeps_none c.args.held.now.here _);
  count = refl;
  remaining = omega arith;
  fulls = λ rank. refl;
  others = record { all = refl; others = λ other differs. refl };
}

pub returns-in_err-put_first-clause-failed : goal.returns-in_err-put_first-clause-failed
returns-in_err-put_first-clause-failed g c =
    let before = c.args.held.now in
    let old = g.P.Post.state c.args.post.now in
    let mid = g.P.Post.state c.loop-k.post in
    let new = g.P.Post.state c.put_first.new.post in
    let i = c.loop-k.invariant in
    let there : IfErr c.from_residual.result (PutsFailed c.loop-k.held c.put_first.new.held mid new) = search rules in
    IfErr-weaker c.from_residual.result _ _
    (λ fault f. record { placed = i.placed ++ f.placed; moved = moved_then before c.loop-k.held c.put_first.new.held old mid new i.placed f.placed i.moved f.moved; no_memory = f.no_memory }) there

pub returns-then-not-branch-clause-put : goal.returns-then-not-branch-clause-put
returns-then-not-branch-clause-put g c =
    let before = c.args.held.now in
    let old = g.P.Post.state c.args.post.now in
    let mid = g.P.Post.state c.loop-k.post in
    let new = g.P.Post.state c.put_first.new.post in
    let i = c.loop-k.invariant in
    let p = c.in_ok-put_first.ensures.put in
    record {
      placed = i.placed ++ p.placed;
      moved = moved_then before c.loop-k.held c.put_first.new.held old mid new i.placed p.placed i.moved p.moved;
      count = omega (arith, i.count, length-append i.placed p.placed, p.count, count_of_none _ c.if-not-branch.true);
      until = found_full_at_last c.in_ok-put_first.field-0 c.args.to c.loop-k.held.queues c.put_first.new.held.queues old mid new c.if-not-branch.true i.fulls p.one;
    }

pub loop-k-preserved : goal.loop-k-preserved
loop-k-preserved g c =
    let before = c.args.held.now in
    let old = g.P.Post.state c.args.post.now in
    let mid = g.P.Post.state c.loop-k.post in
    let new = g.P.Post.state c.put_first.new.post in
    let i = c.loop-k.invariant in
    let p = c.in_ok-put_first.ensures.put in
    let one = puts_one c.in_ok-put_first.field-0 c.args.to c.loop-k.held.queues c.put_first.new.held.queues mid new c.if-not-branch.false p.one in
    record {
      placed = i.placed ++ p.placed;
      moved = moved_then before c.loop-k.held c.put_first.new.held old mid new i.placed p.placed i.moved p.moved;
      count = omega (arith, i.count, length-append i.placed p.placed, p.count, count_of_one _ c.if-not-branch.false);
      remaining = omega (arith, i.remaining, one.0);
      fulls = λ rank. one.1 rank ∙ i.fulls rank;
      others = others_then c.args.to before.queues c.loop-k.held.queues c.put_first.new.held.queues i.others c.put_first.ensures.others;
    }

pub returns-clause-put : goal.returns-clause-put
returns-clause-put g c =
    let i = c.loop-k.invariant in
    record {
      placed = i.placed;
      moved = i.moved;
      count = omega (arith, i.count, c.loop-k-test.false, c.loop-k.auto.k-end);
      until = (nil_from_length _ (omega (arith, i.remaining, c.loop-k-test.false, c.closed_count-most.ensures)), i.fulls);
    }
