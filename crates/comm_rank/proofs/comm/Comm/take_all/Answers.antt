use Rattle.std.proofs.Common.{ℕ, IfErr, refl, sym, subst, arith, rules}
use Rattle.std.proofs.lemmas.Result.{IfErr-weaker}
use Rattle.comm_rank.specs.Agrees.{MayTurn}
use Rattle.comm_rank.specs.Running.{TookFrom, WasCutFrom}
use Rattle.comm_rank.proofs.Running.TookBelow.{cut_later, joined, looked_below, not_looked_above, took_nothing}
use Rattle.comm_rank.proofs.Running.Keeps.{takes_none, takes_then}
use Rattle.comm_rank.proofs.Rank.Same.{same_rank, worked_then}
use Rattle.comm_rank.proofs.comm.Comm.take_all.Goals as goal

pub loop-from-init : goal.loop-from-init
loop-from-init g c = record {
  taken = took_nothing g.H.Handler.apply c.args.self.now _ 0 c.requires.belongs.agrees.nothing_waits;
  belongs = c.requires.belongs;
  may_turn = c.requires.may_turn;
  looked = λ k none. absurd (omega (arith, none));
  others = λ k past. record { taken = refl; misses = refl };
  keeps = takes_none c.args.self.now (g.P.Post.state c.args.post.now);
  rank = refl;
  ranks = c.ranks-from-end.ensures.value;
  few = omega arith;
}

pub take_from-requires-clause-may_turn : goal.take_from-requires-clause-may_turn
take_from-requires-clause-may_turn g c =
    let inv = c.loop-from.invariant in
    let M : ℕ → Type 0 = λ h. MayTurn c.loop-from.self ((g.P.Post.state c.loop-from.post).log h) in
    subst M (sym (same_rank c.args.self.now c.loop-from.self inv.rank).here) inv.may_turn

pub returns-in_err-took-clause-cut : goal.returns-in_err-took-clause-cut
returns-in_err-took-clause-cut g c =
    let apply = g.H.Handler.apply in
    let state = g.P.Post.state in
    let old = c.args.self.now in
    let mid = c.loop-from.self in
    let new = c.take_from.new.self in
    let from = c.loop-from.from in
    let inv = c.loop-from.invariant in
    let same = same_rank old mid inv.rank in
    let there : IfErr c.from_residual.result (WasCutFrom from apply mid new ((state c.loop-from.post).log mid.here) ((state c.take_from.new.post).log mid.here)) = search rules in
    IfErr-weaker c.from_residual.result _ _
    (λ fault cut.
    let P : ℕ → Type 0 = λ h. WasCutFrom from apply mid new ((state c.loop-from.post).log h) ((state c.take_from.new.post).log h) fault in
    cut_later apply old mid new _ _ _ same from c.loop-from.took inv.taken fault (subst P same.here cut)) there

pub returns-in_err-took-clause-rank : goal.returns-in_err-took-clause-rank
returns-in_err-took-clause-rank g c = worked_then c.args.self.now c.loop-from.self c.take_from.new.self c.loop-from.invariant.rank c.take_from.ensures.rank

pub returns-in_err-took-clause-keeps : goal.returns-in_err-took-clause-keeps
returns-in_err-took-clause-keeps g c =
    let inv = c.loop-from.invariant in
    takes_then c.args.self.now c.loop-from.self (same_rank c.args.self.now c.loop-from.self inv.rank) _ _ _ inv.keeps c.take_from.ensures.keeps

pub loop-from-preserved : goal.loop-from-preserved
loop-from-preserved g c =
    let apply = g.H.Handler.apply in
    let state = g.P.Post.state in
    let old = c.args.self.now in
    let mid = c.loop-from.self in
    let new = c.take_from.new.self in
    let from = c.loop-from.from in
    let inv = c.loop-from.invariant in
    let same = same_rank old mid inv.rank in
    let has = c.in_ok-took.ensures.took in
    let P : ℕ → Type 0 = λ h. TookFrom from apply mid new ((state c.loop-from.post).log h) ((state c.take_from.new.post).log h) c.in_ok-took.field-0 in
    let second = subst P same.here has.taken in
    record {
      taken = joined apply old mid new _ _ _ same from c.loop-from.took inv.taken c.in_ok-took.field-0 second;
      belongs = has.belongs;
      may_turn = (let M : ℕ → Type 0 = λ h. MayTurn new ((state c.take_from.new.post).log h) in subst M same.here has.may_turn);
      looked = looked_below old.here mid.here from _ _ _ same.here inv.looked inv.others has.looked has.others;
      others = not_looked_above old.here mid.here from _ _ _ same.here inv.others has.others;
      keeps = takes_then old mid same _ _ _ inv.keeps c.take_from.ensures.keeps;
      rank = worked_then old mid new inv.rank c.take_from.ensures.rank;
      ranks = inv.ranks;
      few = omega (arith, inv.few, second.one);
    }

pub returns-clause-took : goal.returns-clause-took
returns-clause-took g c =
    let inv = c.loop-from.invariant in
    record {
      taken = inv.taken.all;
      belongs = inv.belongs;
      may_turn = inv.may_turn;
      takes_from_each = λ from within. inv.looked from (omega (arith, within, c.loop-from-test.false, inv.ranks));
    }
