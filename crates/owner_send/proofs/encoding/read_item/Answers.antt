use Rattle.std.proofs.Common.{◌≡◌, None, ap, ◌∙◌, rules}
use Rattle.std.proofs.lemmas.Option.{none-some}
use Rattle.owner_send.specs.Item.{item_of}
use Rattle.owner_send.proofs.Item.Again.{item_again}
use Rattle.owner_send.proofs.encoding.read_item.Goals as goal

pub returns-in_default-clause-none : goal.returns-in_default-clause-none
unfolding item_of
returns-in_default-clause-none c =
    let none : None ≡ item_of c.args.body.now = search rules in
    λ item short same. none-some item (none ∙ ap item_of same ∙ item_again item short)
