use Rattle.mail_table.proofs.Seats.AsCalled.{head_in, head_loaded, may_load_head}
use Rattle.mail_table.proofs.links.Links.load_head.Goals as goal

pub load-requires : goal.load-requires
load-requires c =
    let links = c.args.self.now in let at = c.requires.at in let word = c.head_word.ensures in (
      c.requires.table,
      head_in links.settings links.bounds links.table.shared.table_id links.laid_out c.args.rank c.args.to c.head_word.result at.of.within c.requires.receiver word,
      may_load_head links.table.shared.key links.settings links.key links.table.shared.table_id.slots c.args.seat.now.id c.args.rank c.head_word.result c.args.seat.now.me at.of at c.args.to c.requires.receiver word,
    )

pub returns-clause-loaded : goal.returns-clause-loaded
returns-clause-loaded c =
    let links = c.args.self.now in
    head_loaded links.table.shared.key links.settings links.key links.table.shared.table_id.slots c.args.seat.now.id c.args.rank c.head_word.result c.args.seat.now.me c.requires.at.of c.args.to c.load.result c.load.new.seat.me c.requires.receiver c.head_word.ensures c.load.ensures.2
