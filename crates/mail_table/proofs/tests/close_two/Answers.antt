use Rattle.std.proofs.Common.{rules, ◌≡◌, [], ◌∷◌, sym, subst}
use Rattle.mail_table.specs.Table.{AreAllPasses}
use Rattle.mail_table.proofs.Carrier.Fresh.{are_all}
use Rattle.mail_table.proofs.tests.close_two.Goals as goal

pub close-requires : goal.close-requires
close-requires c =
    let items : c.in_ok-all.all.items ≡ c.args.first.pass ∷ c.args.second.pass ∷ [] = search rules in
    subst (AreAllPasses c.args.table) (sym items) (are_all c.args.table (c.args.first.pass ∷ c.args.second.pass ∷ []) (sym c.requires.two)
    (c.requires.first, c.requires.ranks.0, (c.requires.second, c.requires.ranks.1, tt)))
