use Rattle.std.proofs.Common.{rules}
use Rattle.msg_codec.specs.Letter.{letter_of}
use Rattle.msg_codec.proofs.Placed.Pushed.{first_put, later_put}
use Rattle.msg_codec.proofs.batch.Batch.push.Goals as goal

pub invariant_of-self : goal.invariant_of-self
invariant_of-self c =
    let put = first_put c.append.result _ _ _ (letter_of c.args.letter) c.self.invariant (search rules) c.append.ensures.ok c.append.ensures.err in
    put.whole

pub returns-then-start-eq0-clause-last : goal.returns-then-start-eq0-clause-last
returns-then-start-eq0-clause-last c =
    let put = first_put c.append.result _ _ _ (letter_of c.args.letter) c.self.invariant (search rules) c.append.ensures.ok c.append.ensures.err in
    rw (← c.self.view_is) put.letters

pub invariant_of-self-2 : goal.invariant_of-self-2
invariant_of-self-2 c =
    let put = later_put _ _ _ _ (letter_of c.args.letter) c.self.invariant (search rules) c.in_ok-append.ensures.ok (search rules) in
    put.whole

pub returns-clause-last : goal.returns-clause-last
returns-clause-last c =
    let put = later_put _ _ _ _ (letter_of c.args.letter) c.self.invariant (search rules) c.in_ok-append.ensures.ok (search rules) in
    rw (← c.self.view_is) put.letters
