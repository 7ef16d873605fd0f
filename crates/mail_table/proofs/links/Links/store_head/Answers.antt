use Rattle.std.proofs.Common.{None, refl}
use Rattle.mail_table.proofs.Seats.AsCalled.{head_in, may_store_head}
use Rattle.mail_table.proofs.links.Links.store_head.Goals as goal

pub store-requires : goal.store-requires
store-requires c =
    let links = c.args.self.now in let emptying = c.requires.emptying in let word = c.head_word.ensures in (
      c.requires.table,
      head_in links.settings links.bounds links.table.shared.table_id links.laid_out c.args.from c.args.rank c.head_word.result emptying.within emptying.of.within word,
      may_store_head links.table.shared.key links.settings links.key links.table.shared.table_id.slots c.args.seat.now.id c.args.rank c.head_word.result c.args.seat.now.me emptying.of
          c.args.from c.args.made _ None emptying word refl,
    )
