use Rattle.std.proofs.Common.{length, sym, ap, ◌∙◌, subst}
use Rattle.std.proofs.lemmas.List.{length-map}
use Rattle.world_core.specs.Modest.{IsWorld}
use Rattle.mail_table.specs.declared.settings.Settings.{Settings}
use Rattle.mail_table.specs.declared.views.RankView.{RankView}
use Rattle.mail_table.specs.Rule.{world_in}
use Rattle.mail_table.specs.Steps.{Seated}
use Rattle.mail_table.specs.Table.{PassState}
use Rattle.mail_table.proofs.Rule.Passes.{learns}
use Rattle.mail_table.proofs.Seats.AsCalled.{stop_in}
use Rattle.mail_table.proofs.passes.joined.Goals as goal

pub load-requires : goal.load-requires
load-requires c =
    let links = c.args.links.now in (
      c.gathered-seat.ensures.table,
      stop_in links.settings links.bounds links.table.shared.table_id links.laid_out,
      learns links.table.shared.key links.table.shared.table_id.slots c.gathered-seat.result.id c.gathered-seat.result.me (c.gathered-seat.ensures.has.settings_are ∙ sym links.key),
    )

pub returns-clause-sound : goal.returns-clause-sound
returns-clause-sound c =
    let links = c.args.links.now in let seat = c.gathered-seat.result.me in let has = c.gathered-seat.ensures.has in let learned = c.load.ensures.2 in
    let all = sym (length-map seat.0.ranks (λ (rank : RankView). rank.log)) ∙ ap length has.logs_are ∙ length-map c.args.passes.items (λ (pass : PassState). pass.log)
    ∙ c.requires.all ∙ ap (λ (settings : Settings). settings.layout.ranks) (sym has.settings_are) in
    subst (λ (z : Seated). IsWorld (world_in z.0.settings z.0.ranks)) (sym learned.same) (learned.sound has.first_is all)
