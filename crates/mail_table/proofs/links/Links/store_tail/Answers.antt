use Rattle.std.proofs.Common.{refl}
use Rattle.mail_table.specs.Steps.{batch_in}
use Rattle.mail_table.proofs.Seats.AsCalled.{may_store_tail, tail_in}
use Rattle.mail_table.proofs.links.Links.store_tail.Goals as goal

pub store-requires : goal.store-requires
store-requires c =
    let links = c.args.self.now in let filling = c.requires.filling in let word = c.tail_word.ensures in (
      c.requires.table,
      tail_in links.settings links.bounds links.table.shared.table_id links.laid_out c.args.rank c.args.to c.tail_word.result filling.of.within filling.within word,
      may_store_tail links.table.shared.key links.settings links.key links.table.shared.table_id.slots c.args.seat.now.id c.args.rank c.tail_word.result c.args.seat.now.me filling.of
          c.an_honest_put_keeps_a_sound_world.ensures c.args.to c.args.made _ (batch_in c.args.seat.now.me.1) filling word refl c.requires.honest,
    )
