use Rattle.std.proofs.Common.{◌∙◌, subst}
use Rattle.ygm_route.specs.Hop.{hop}
use Rattle.mail_table.specs.Carrier.{Carries}
use Rattle.mail_table.proofs.Carrier.Honest.{honest_next}
use Rattle.mail_table.proofs.Carrier.Kept.{is_first, passed}
use Rattle.mail_table.proofs.tests.pass_on.Goals as goal

pub put-requires-clause-honest : goal.put-requires-clause-honest
put-requires-clause-honest c =
    let i = c.carrier.inside in let next = c.next_hop-next.result in let batch = c.in-Some.batch in
    let carries = subst (Carries i.layout i.scheme i.pass i.sent) c.in-Some.is c.carrier.invariant in
    let may = carries.may_pass_on in
    let first = is_first batch may.0 _ may.1 c.letter_at-to.ensures in
    honest_next i.layout i.scheme i.pass i.sent next batch carries may.0 may.1 may.2 c.next_hop-next.ensures.within
    (c.next_hop-next.ensures.value ∙ (λ k. hop i.layout i.scheme (c.rank.ensures.value k) (first k).to))

pub invariant_of-result-in-Ok : goal.invariant_of-result-in-Ok
invariant_of-result-in-Ok c =
    let i = c.carrier.inside in
    let carries = subst (Carries i.layout i.scheme i.pass i.sent) c.in-Some.is c.carrier.invariant in
    passed i.layout i.scheme i.pass c.put.new.pass i.sent c.next_hop-next.result c.in-Some.batch carries c.in-Ok.ensures.done
