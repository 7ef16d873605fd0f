use Rattle.mail_table.proofs.Seats.AsCalled.{may_load_tail, tail_in, tail_loaded}
use Rattle.mail_table.proofs.links.Links.load_tail.Goals as goal

pub load-requires : goal.load-requires
load-requires c =
    let links = c.args.self.now in let at = c.requires.at in let word = c.tail_word.ensures in (
      c.requires.table,
      tail_in links.settings links.bounds links.table.shared.table_id links.laid_out c.args.from c.args.rank c.tail_word.result c.requires.sender at.of.within word,
      may_load_tail links.table.shared.key links.settings links.key links.table.shared.table_id.slots c.args.seat.now.id c.args.rank c.tail_word.result c.args.seat.now.me at.of
          c.taking_the_next_batch_keeps_a_sound_world.ensures at c.args.from c.requires.sender word,
    )

pub returns-clause-loaded : goal.returns-clause-loaded
returns-clause-loaded c =
    let links = c.args.self.now in
    tail_loaded links.table.shared.key links.settings links.key links.table.shared.table_id.slots c.args.seat.now.id c.args.rank c.tail_word.result c.args.seat.now.me c.requires.at.of c.args.from c.load.result c.load.new.seat.me c.requires.sender c.tail_word.ensures c.load.ensures.2
