use Rattle.std.proofs.Common.{rules, ◌∙◌, ◌+◌, ◌-◌, ◌*◌, ap, arith, drop, get_or, option_and_then, sym}
use Rattle.ygm_run.specs.Words.{if_within}
use Rattle.ygm_run.proofs.CommandLine.Numbers.{above_most, digit_more}
use Rattle.ygm_run.proofs.words.digits_within.Goals as goal

pub returns-then-number-from : goal.returns-then-number-from
returns-then-number-from c =
    let digits = c.args.digits.now in
    let k = c.loop-digit.digit-index in
    let digit = digit_more digits k c.loop-digit.number (omega (arith, c.loop-digit-test.true)) (search rules) in
    sym (ap (option_and_then (if_within c.args.least c.args.most)) (c.loop-digit.invariant.read ∙ digit)
    ∙ above_most (drop (k + 1) digits) (c.loop-digit.number * 10 + (get_or digits k 0 - 48)) c.args.least c.args.most
    (omega (arith, c.if-number-from.true, c.from.ensures, c.from-in-loop-digit.ensures)))
