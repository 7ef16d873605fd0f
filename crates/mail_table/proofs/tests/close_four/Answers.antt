use Rattle.std.proofs.Common.{rules, ◌≡◌, [], ◌∷◌, sym, subst}
use Rattle.mail_table.specs.Table.{AreAllPasses}
use Rattle.mail_table.proofs.Carrier.Fresh.{are_all}
use Rattle.mail_table.proofs.tests.close_four.Goals as goal

pub close-requires : goal.close-requires
close-requires c =
    let t = c.args.table in let o = c.args.others in let q = c.requires in
    let items : c.in_ok-all.all.items ≡ c.args.source.pass ∷ o.0.pass ∷ o.1.pass ∷ o.2.pass ∷ [] = search rules in
    subst (AreAllPasses t) (sym items) (are_all t (c.args.source.pass ∷ o.0.pass ∷ o.1.pass ∷ o.2.pass ∷ []) (sym q.four)
    (q.source.0, q.source.1, (q.first.0, q.first.1, (q.second.0, q.second.1, (q.third.0, q.third.1, tt)))))
