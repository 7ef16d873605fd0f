use Rattle.std.proofs.Common.{IfErr, ◌++◌, [], ◌∷◌, refl, length-append, arith, rules}
use Rattle.std.proofs.lemmas.Result.{IfErr-weaker}
use Rattle.comm_rank.specs.Running.{StuckIn}
use Rattle.comm_rank.proofs.Running.Passed.{passed_more, passed_none}
use Rattle.comm_rank.proofs.Running.Stuck.{stuck_among}
use Rattle.comm_rank.proofs.Running.Waiting.{rest_few, rest_taken, waits_one_less}
use Rattle.comm_rank.proofs.Rank.Same.{ran_then, same_ran}
use Rattle.comm_rank.proofs.comm.Comm.pass_waiting.Goals as goal

pub loop-init : goal.loop-init
loop-init g c = record { letters = []; waits = refl; long = refl; passed = passed_none g.H.Handler.apply c.args.self.now; count = search rules; rank = refl }

pub pass_first-requires-clause-taken : goal.pass_first-requires-clause-taken
pass_first-requires-clause-taken g c =
    let inv = c.loop.invariant in
    rest_taken c.args.self.now c.loop.self (same_ran c.args.self.now c.loop.self inv.rank) inv.letters inv.waits c.requires.taken

pub pass_first-requires-clause-few : goal.pass_first-requires-clause-few
pass_first-requires-clause-few g c =
    let inv = c.loop.invariant in
    rest_few c.args.self.now c.loop.self (same_ran c.args.self.now c.loop.self inv.rank) inv.letters inv.waits g.H.Handler.apply inv.passed c.requires.few

pub returns-in_err-pass_first-clause-stuck : goal.returns-in_err-pass_first-clause-stuck
returns-in_err-pass_first-clause-stuck g c =
    let inv = c.loop.invariant in
    let there : IfErr c.from_residual.result (StuckIn g.H.Handler.apply c.loop.self c.pass_first.new.self c.loop.self.waiting) = search rules in
    IfErr-weaker c.from_residual.result _ _
    (stuck_among g.H.Handler.apply c.args.self.now c.loop.self c.pass_first.new.self (same_ran c.args.self.now c.loop.self inv.rank) inv.letters inv.waits inv.passed) there

pub returns-in_err-pass_first-clause-rank : goal.returns-in_err-pass_first-clause-rank
returns-in_err-pass_first-clause-rank g c = ran_then c.args.self.now c.loop.self c.pass_first.new.self c.loop.invariant.rank c.pass_first.ensures.rank

pub loop-preserved : goal.loop-preserved
loop-preserved g c =
    let inv = c.loop.invariant in
    let same = same_ran c.args.self.now c.loop.self inv.rank in
    let one = c.in_ok-pass_first.ensures.passed in
    record {
      letters = inv.letters ++ one.letter ∷ [];
      waits = waits_one_less _ inv.letters _ _ one.letter inv.waits one.first;
      long = omega (arith, inv.long, length-append inv.letters (one.letter ∷ []));
      passed = passed_more g.H.Handler.apply _ _ _ same.here same.layout inv.letters (one.letter ∷ []) inv.passed one.passed;
      count = inv.count;
      rank = ran_then c.args.self.now c.loop.self c.pass_first.new.self inv.rank c.pass_first.ensures.rank;
    }
