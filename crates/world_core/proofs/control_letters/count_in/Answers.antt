use Rattle.std.proofs.Common.{◌&&◌, Bool, nat_eq, sym, ◌∙◌}
use Rattle.msg_codec.specs.Control.{round_of}
use Rattle.msg_codec.specs.Letter.{letter_of}
use Rattle.msg_codec.specs.declared.letter.Letter.{Letter}
use Rattle.world_core.specs.Counts.{is_count_of}
use Rattle.world_core.proofs.Counts.NumbersRead.{read_here, read_next}
use Rattle.world_core.proofs.control_letters.count_in.Goals as goal

pub returns-then-is_some : goal.returns-then-is_some
returns-then-is_some c =
    let test : Letter → Bool = λ l. is_count_of c.args.rank l && nat_eq (round_of l) c.args.q in
    read_here test c.args.letters.now c.loop-k.k (letter_of c.letter_at.result) c.letter_at.ensures c.loop-k.invariant
    c.read_count-found.result c.read_count-found.ensures (sym c.is_some.ensures ∙ c.if-is_some.true)

pub loop-k-preserved : goal.loop-k-preserved
loop-k-preserved c =
    let test : Letter → Bool = λ l. is_count_of c.args.rank l && nat_eq (round_of l) c.args.q in
    read_next test c.args.letters.now c.loop-k.k (letter_of c.letter_at.result) c.letter_at.ensures c.loop-k.invariant
    c.read_count-found.result c.read_count-found.ensures (sym c.is_some.ensures ∙ c.if-is_some.false)
