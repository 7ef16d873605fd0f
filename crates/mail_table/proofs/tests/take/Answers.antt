use Rattle.std.proofs.Common.{rules, arith, ◌≡◌, length, lt-ltb, sym, ◌∙◌}
use Rattle.msg_codec.specs.Letter.{letter_of}
use Rattle.mail_table.specs.Carrier.{IsForOthers}
use Rattle.mail_table.proofs.Carrier.Kept.{it_waits, kept_it, one_of}
use Rattle.mail_table.proofs.tests.take.Goals as goal

pub invariant_of-result-then-to-here : goal.invariant_of-result-then-to-here
invariant_of-result-then-to-here c =
    let i = c.carrier.inside in let batch = c.in-Some.batch in
    let one : length batch ≡ 1 = search rules in
    kept_it i.layout i.scheme i.pass c.take.new.pass i.sent c.args.from i.waiting batch (letter_of c.letter_at-letter.result) c.carrier.invariant (search rules)
    (one_of batch (letter_of c.letter_at-letter.result) one c.letter_at-letter.ensures) (c.if-to-here.true ∙ c.rank-here.ensures.value) c.in-Some.ensures.took

pub invariant_of-result-2 : goal.invariant_of-result-2
invariant_of-result-2 c =
    let i = c.carrier.inside in let batch = c.in-Some.batch in let l = letter_of c.letter_at-letter.result in let here = c.rank-here.ensures.value in
    let one : length batch ≡ 1 = search rules in
    let to_within = c.if-to-ranks.false in let sender_within = c.if-sender-ranks.false in
    let few = c.ranks.ensures.value in let few' = c.ranks-else-to-ranks.ensures.value in
    let others : IsForOthers i.layout i.pass.rank l = record {
      tagged = lt-ltb _ _ c.if-tag-ge240.false;
      to_within = omega (arith, to_within, few);
      from_within = omega (arith, sender_within, few');
      not_from = λ e. c.if-sender-here.false (e ∙ sym here);
      not_to = λ e. c.if-to-here.false (e ∙ sym here);
    } in
    it_waits i.layout i.scheme i.pass c.take.new.pass i.sent c.args.from i.waiting batch l c.carrier.invariant (search rules) (one_of batch l one c.letter_at-letter.ensures) others c.in-Some.ensures.took
