use Rattle.std.proofs.Common.{◌&&◌, Bool, nat_eq, refl, sym, ◌∙◌, arith}
use Rattle.std.proofs.lemmas.Option.{slice_get_read}
use Rattle.msg_codec.specs.Control.{round_of}
use Rattle.msg_codec.specs.declared.letter.Letter.{Letter}
use Rattle.world_core.specs.Counts.{count_taken, is_count_of}
use Rattle.world_core.proofs.Counts.NumbersRead.{log_here, log_next}
use Rattle.world_core.proofs.control_letters.count_taken.Goals as goal

pub loop-entry-init : goal.loop-entry-init
unfolding count_taken
loop-entry-init c = refl

pub returns-then-is_some : goal.returns-then-is_some
unfolding count_taken
returns-then-is_some c =
    let test : Letter → Bool = λ l. is_count_of c.args.rank l && nat_eq (round_of l) c.args.q in
    let read = slice_get_read c.args.log.now _ c.loop-entry.entry-index c.entry-item.result refl (omega arith) c.entry-item.is in
    log_here test c.args.rank c.args.log.now c.loop-entry.entry-index c.entry-item.result read c.loop-entry.invariant
    c.count_by-found.result c.count_by-found.ensures (sym c.is_some.ensures ∙ c.if-is_some.true)

pub loop-entry-preserved : goal.loop-entry-preserved
unfolding count_taken
loop-entry-preserved c =
    let test : Letter → Bool = λ l. is_count_of c.args.rank l && nat_eq (round_of l) c.args.q in
    let read = slice_get_read c.args.log.now _ c.loop-entry.entry-index c.entry-item.result refl (omega arith) c.entry-item.is in
    log_next test c.args.rank c.args.log.now c.loop-entry.entry-index c.entry-item.result read c.loop-entry.invariant
    c.count_by-found.result c.count_by-found.ensures (sym c.is_some.ensures ∙ c.if-is_some.false)
