use Rattle.std.proofs.Common.{◌≡◌, ◌+◌, lt-ltb, Some, length, take, slice_get, sym, ◌∙◌, arith}
use Rattle.msg_codec.specs.Letter.{letter_of}
use Rattle.world_core.specs.Local.{having_put}
use Rattle.world_core.specs.Pairs.{of_pair, pair_put, pair_taken}
use Rattle.world_core.specs.Trial.{local_tried}
use Rattle.world_core.proofs.Local.ToForward.{forwards_between, next_held, next_none, not_own}
use Rattle.world_core.proofs.data_rules.is_next.Goals as goal

pub returns-then-l-me : goal.returns-then-l-me
returns-then-l-me c = λ to.
    sym (not_own (having_put (local_tried c.args.me.now) to (take c.args.k c.args.letters.now)) c.args.l.from c.args.l.to (letter_of c.args.l) c.if-l-me.true)

pub returns-in-Some : goal.returns-in-Some
returns-in-Some c = λ to.
    let me = local_tried c.args.me.now in
    let l = letter_of c.args.l in
    let n = c.pair_put_count-put.result + c.from.result in
    let count : n ≡ length (pair_put l.from l.to me.log) + length (of_pair l.from l.to (take c.args.k c.args.letters.now)) = omega (arith, c.pair_count.ensures) in
    let held : slice_get (pair_taken l.from l.to me.log) n ≡ Some (letter_of c.in-Some.held) = c.in-Some.ensures in
    let may = forwards_between me l.from l.to (lt-ltb _ _ c.requires.from_within) (lt-ltb _ _ c.requires.to_within)
    (λ e. c.requires.other (sym e)) (λ e. c.if-l-me.false (sym e)) in
    c.is_same.ensures ∙ sym (next_held me to (take c.args.k c.args.letters.now) l.from l.to n count (letter_of c.in-Some.held) l may held)

pub returns-in-None : goal.returns-in-None
returns-in-None c = λ to.
    let me = local_tried c.args.me.now in
    let l = letter_of c.args.l in
    let n = c.pair_put_count-put.result + c.from.result in
    let count : n ≡ length (pair_put l.from l.to me.log) + length (of_pair l.from l.to (take c.args.k c.args.letters.now)) = omega (arith, c.pair_count.ensures) in
    sym (next_none me to (take c.args.k c.args.letters.now) l.from l.to n count l c.in-None.ensures)
