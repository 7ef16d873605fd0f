use Rattle.std.proofs.Common.{rules, None}
use Rattle.mail_table.proofs.Seats.Between.{exchanged_from, has_batch_slot, slot_there}
use Rattle.mail_table.proofs.links.Links.take_at.Goals as goal

pub exchange-requires : goal.exchange-requires
exchange-requires c =
    let settings = c.args.self.now.settings in
    let mid = has_batch_slot settings c.args.rank c.args.from c.args.made c.load_tail-tail.result c.args.seat.now.me c.load_tail-tail.new.seat.me c.requires.at c.requires.sender c.requires.made c.load_tail-tail.ensures.loaded c.if-tail-made.false in
    (search rules, (_, slot_there settings c.args.rank c.args.from c.args.made c.slot.result _ c.load_tail-tail.new.seat.me c.slot.ensures mid))

pub store_head-requires-clause-emptying : goal.store_head-requires-clause-emptying
store_head-requires-clause-emptying c =
    let settings = c.args.self.now.settings in
    let mid = has_batch_slot settings c.args.rank c.args.from c.args.made c.load_tail-tail.result c.args.seat.now.me c.load_tail-tail.new.seat.me c.requires.at c.requires.sender c.requires.made c.load_tail-tail.ensures.loaded c.if-tail-made.false in
    exchanged_from settings c.args.rank c.args.from c.args.made c.slot.result _ None c.load_tail-tail.new.seat.me c.exchange.new.seat.me c.slot.ensures mid c.exchange.ensures.3
