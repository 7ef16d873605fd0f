use Rattle.std.proofs.Common.{List, Some, ap, sym, subst}
use Rattle.msg_codec.specs.declared.letter.Letter.{Letter}
use Rattle.mail_table.specs.Seats.{IsFilling}
use Rattle.mail_table.specs.Steps.{Seated, batch_in}
use Rattle.mail_table.proofs.Seats.Between.{exchanged_to, has_slot, room_shown}
use Rattle.mail_table.proofs.links.Links.put_at.Goals as goal

pub store_tail-requires-clause-filling : goal.store_tail-requires-clause-filling
store_tail-requires-clause-filling c =
    let settings = c.args.self.now.settings in
    let room = room_shown settings c.args.made c.load_head-head.result c.if-made-head.false c.if-made-self.false in
    let mid = has_slot settings c.args.rank c.args.to c.args.made c.load_head-head.result c.args.seat.now.me c.load_head-head.new.seat.me c.requires.at c.requires.receiver c.requires.made c.load_head-head.ensures.loaded room in
    let now = exchanged_to settings c.args.rank c.args.to c.args.made c.slot.result mid.0 (Some c.args.batch) c.load_head-head.new.seat.me c.exchange.new.seat.me c.slot.ensures mid.1 c.exchange.ensures.3 in
    subst (λ (batch : List Letter). IsFilling settings c.args.rank c.args.to c.args.made (Some batch) c.exchange.new.seat.me) (sym (ap (λ (z : Seated). batch_in z.1) c.exchange.ensures.3)) now
