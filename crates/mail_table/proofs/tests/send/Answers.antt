use Rattle.std.proofs.Common.{rules, ◌≡◌, None, List, refl, sym, subst}
use Rattle.msg_codec.specs.declared.letter.Letter.{Letter}
use Rattle.world_core.specs.Rules.{first_broken}
use Rattle.world_core.specs.Rules.Deed.{Puts}
use Rattle.mail_table.specs.Table.{local_of}
use Rattle.mail_table.proofs.Carrier.Honest.{honest_own}
use Rattle.mail_table.proofs.Carrier.Kept.{own_put}
use Rattle.mail_table.proofs.tests.send.Goals as goal

pub put-requires-clause-honest : goal.put-requires-clause-honest
put-requires-clause-honest c =
    let i = c.carrier.inside in let next = c.next_hop-next.result in
    subst (λ (batch : List Letter). first_broken (local_of i.pass) (Puts next batch) ≡ None) (sym c.in_ok-batch.ensures)
    (honest_own i.layout i.scheme i.pass i.sent next i.waiting c.carrier.invariant _ refl c.rank-here.ensures.value (search rules) (search rules) (search rules) (search rules))

pub invariant_of-carrier : goal.invariant_of-carrier
invariant_of-carrier c =
    let i = c.carrier.inside in
    own_put i.layout i.scheme i.pass c.put.new.pass i.sent c.next_hop-next.result i.waiting c.in_ok-batch.batch _ c.carrier.invariant (search rules) c.in_ok-batch.ensures refl c.rank-here.ensures.value (search rules)
