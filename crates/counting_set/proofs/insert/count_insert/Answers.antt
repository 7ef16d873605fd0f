use Rattle.std.proofs.Common.{OnOk, subst}
use Rattle.comm_rank.specs.Rank.{HasSent}
use Rattle.owner_send.specs.Sends.{letter_to_owner}
use Rattle.counting_set.proofs.insert.count_insert.Goals as goal

pub returns-clause-sent : goal.returns-clause-sent
returns-clause-sent g c =
    let me = c.args.comm.now in
    subst (λ body. OnOk c.send_to_owner.result (HasSent me c.send_to_owner.new.comm (letter_to_owner me c.args.item.now 1 body)))
    c.in_ok-body.ensures.value c.send_to_owner.ensures.sends.sent
