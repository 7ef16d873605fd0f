use Rattle.std.proofs.Common.{◌+◌, List, [], ◌∷◌, ◌++◌, length, append-nil, length-append, refl, ap, ◌∙◌}
use Rattle.world_core.specs.declared.entry.Entry.{Entry}
use Rattle.mail_table.specs.Rule.{logs_of}
use Rattle.mail_table.specs.Seats.{state_of_links}
use Rattle.mail_table.specs.Table.{logs_in}
use Rattle.mail_table.proofs.Seats.AsCalled.{stop_in}
use Rattle.mail_table.proofs.Seats.Gathering.{before_in_order, has_at, has_both, has_own, last_in_order, logs_cut, may_join}
use Rattle.mail_table.proofs.passes.gathered.Goals as goal

pub loop-pass-init : goal.loop-pass-init
loop-pass-init c =
    let links = c.args.links.now in let table = state_of_links links.table.shared.table_id links.settings in
    let before = c.pop.new.self.items in let last = c.in-Some.last in let is = c.in-Some.ensures.items in
    let here = last_in_order table c.args.passes.items before last is c.requires.each in
    let seat = c.seat_of-all.result in let has = c.seat_of-all.ensures.has in (
      c.seat_of-all.ensures.table ∙ here.0.table_is,
      has_own links.settings (length before) (last.log ∷ []) seat.me (has_at links.settings last.settings (length before) last.rank (last.log ∷ []) seat.me here.0.settings_are here.1 has),
      ap (λ (logs : List (List Entry)). logs_in before ++ logs) has.logs_are ∙ logs_cut table c.args.passes.items before last is [] ∙ append-nil (logs_in c.args.passes.items),
      before_in_order table c.args.passes.items before last is c.requires.each,
    )

pub join_seat-requires : goal.join_seat-requires
join_seat-requires c =
    let links = c.args.links.now in let table = state_of_links links.table.shared.table_id links.settings in
    let before = c.pop-in-loop-pass.new.self.items in let pass = c.in-Some-pop.pass in let is = c.in-Some-pop.ensures.items in
    let known = c.loop-pass.invariant in
    let here = last_in_order table c.loop-pass.passes.items before pass is known.3 in
    let seat = c.seat_of-seat.result in let others = c.loop-pass.all in
    let has = has_at links.settings pass.settings (length before) pass.rank (pass.log ∷ []) seat.me here.0.settings_are here.1 c.seat_of-seat.ensures.has in
    let next = has_at links.settings links.settings (length before + 1) (length c.loop-pass.passes.items) (logs_of others.me.0.ranks) others.me refl (ap length is ∙ length-append before (pass ∷ [])) known.1 in (
      c.seat_of-seat.ensures.table ∙ here.0.table_is,
      known.0,
      known.1.hand,
      stop_in links.settings links.bounds links.table.shared.table_id links.laid_out,
      may_join links.settings (length before) pass.log (logs_of others.me.0.ranks) seat.me others.me has next links.table.shared.key seat.id others.id,
    )

pub loop-pass-preserved : goal.loop-pass-preserved
loop-pass-preserved c =
    let links = c.args.links.now in let table = state_of_links links.table.shared.table_id links.settings in
    let before = c.pop-in-loop-pass.new.self.items in let pass = c.in-Some-pop.pass in let is = c.in-Some-pop.ensures.items in
    let known = c.loop-pass.invariant in
    let here = last_in_order table c.loop-pass.passes.items before pass is known.3 in
    let seat = c.seat_of-seat.result in let others = c.loop-pass.all in
    let has = has_at links.settings pass.settings (length before) pass.rank (pass.log ∷ []) seat.me here.0.settings_are here.1 c.seat_of-seat.ensures.has in
    let next = has_at links.settings links.settings (length before + 1) (length c.loop-pass.passes.items) (logs_of others.me.0.ranks) others.me refl (ap length is ∙ length-append before (pass ∷ [])) known.1 in
    let joined = c.join_seat.ensures in
    let both = has_both links.settings (length before) pass.log (logs_of others.me.0.ranks) seat.me others.me has next c.join_seat.new.seat.me joined.2 in (
      joined.0 ∙ c.seat_of-seat.ensures.table ∙ here.0.table_is,
      has_own links.settings (length before) (pass.log ∷ logs_of others.me.0.ranks) c.join_seat.new.seat.me both,
      ap (λ (logs : List (List Entry)). logs_in before ++ logs) both.logs_are ∙ logs_cut table c.loop-pass.passes.items before pass is (logs_of others.me.0.ranks) ∙ known.2,
      before_in_order table c.loop-pass.passes.items before pass is known.3,
    )
