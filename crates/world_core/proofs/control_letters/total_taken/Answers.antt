use Rattle.std.proofs.Common.{◌&&◌, Bool, nat_eq, refl, sym, ◌∙◌, arith}
use Rattle.std.proofs.lemmas.Option.{slice_get_read}
use Rattle.msg_codec.specs.Control.{round_of}
use Rattle.msg_codec.specs.declared.letter.Letter.{Letter}
use Rattle.world_core.specs.Counts.{total_taken, is_total_to}
use Rattle.world_core.proofs.Counts.NumbersRead.{log_here, log_next}
use Rattle.world_core.proofs.control_letters.total_taken.Goals as goal

pub loop-entry-init : goal.loop-entry-init
unfolding total_taken
loop-entry-init c = refl

pub returns-then-is_some : goal.returns-then-is_some
unfolding total_taken
returns-then-is_some c =
    let test : Letter → Bool = λ l. is_total_to c.args.here l && nat_eq (round_of l) c.args.q in
    let read = slice_get_read c.args.log.now _ c.loop-entry.entry-index c.entry-item.result refl (omega arith) c.entry-item.is in
    log_here test 0 c.args.log.now c.loop-entry.entry-index c.entry-item.result read c.loop-entry.invariant
    c.total_by-found.result c.total_by-found.ensures (sym c.is_some.ensures ∙ c.if-is_some.true)

pub loop-entry-preserved : goal.loop-entry-preserved
unfolding total_taken
loop-entry-preserved c =
    let test : Letter → Bool = λ l. is_total_to c.args.here l && nat_eq (round_of l) c.args.q in
    let read = slice_get_read c.args.log.now _ c.loop-entry.entry-index c.entry-item.result refl (omega arith) c.entry-item.is in
    log_next test 0 c.args.log.now c.loop-entry.entry-index c.entry-item.result read c.loop-entry.invariant
    c.total_by-found.result c.total_by-found.ensures (sym c.is_some.ensures ∙ c.if-is_some.false)
