use Rattle.std.proofs.Common.{rules, [], ap, ◌∙◌}
use Rattle.mail_table.specs.declared.views.View.{View}
use Rattle.mail_table.specs.Seats.{pass_of}
use Rattle.mail_table.specs.Steps.{Seated}
use Rattle.mail_table.proofs.Seats.AsCalled.{stop_in}
use Rattle.mail_table.proofs.Seats.Dealing.{given_is, is_fresh_pass, kept_is, may_deal}
use Rattle.mail_table.proofs.passes.next_pass.Goals as goal

pub split_seat-seat-requires : goal.split_seat-seat-requires
split_seat-seat-requires c =
    let links = c.args.links.now in let view = ap (λ (seat : Seated). seat.0) c.requires.others in (
      c.requires.table,
      stop_in links.settings links.bounds links.table.shared.table_id links.laid_out,
      may_deal links.settings c.args.rank c.requires.rank links.table.shared.key c.args.others.now.id c.args.others.now.me.0 view,
    )

pub invariant_of-result : goal.invariant_of-result
invariant_of-result c =
    let settings = c.args.links.now.settings in let view = ap (λ (seat : Seated). seat.0) c.requires.others in
    is_fresh_pass settings c.args.rank c.requires.rank c.in_ok-puts.puts.items c.in_ok-takes.takes.items c.split_seat-seat.result.me (search rules) (search rules)
    (c.split_seat-seat.ensures.4 ∙ ap (λ (v : View). (v, [])) (given_is settings c.args.rank c.requires.rank c.args.others.now.me.0 view))

pub returns-clause-pass : goal.returns-clause-pass
returns-clause-pass c =
    let settings = c.args.links.now.settings in let view = ap (λ (seat : Seated). seat.0) c.requires.others in
    let split = c.split_seat-seat.ensures in
    (λ i. pass_of ((split.3 ∙ c.requires.table) i) c.args.rank ((ap (λ (seat : Seated). seat.0) split.4 ∙ given_is settings c.args.rank c.requires.rank c.args.others.now.me.0 view) i))

pub returns-clause-others : goal.returns-clause-others
returns-clause-others c =
    let settings = c.args.links.now.settings in let view = ap (λ (seat : Seated). seat.0) c.requires.others in
    c.split_seat-seat.ensures.2 ∙ (λ i. (kept_is settings c.args.rank c.requires.rank c.args.others.now.me.0 view i, (c.requires.others i).1))
