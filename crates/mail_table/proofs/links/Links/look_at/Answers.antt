use Rattle.mail_table.proofs.Seats.AsCalled.{may_load_stop, stop_in}
use Rattle.mail_table.proofs.links.Links.look_at.Goals as goal

pub load-requires : goal.load-requires
load-requires c =
    let links = c.args.self.now in (
      c.requires.table,
      stop_in links.settings links.bounds links.table.shared.table_id links.laid_out,
      may_load_stop links.table.shared.key links.settings links.key links.table.shared.table_id.slots c.args.seat.now.id c.args.seat.now.me.0.first 0 c.args.seat.now.me c.requires.at.of,
    )
