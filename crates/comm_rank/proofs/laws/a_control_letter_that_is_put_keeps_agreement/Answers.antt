use Rattle.comm_rank.proofs.Agrees.AfterControl.{control_count, control_total, not_count, put_count, put_total}
use Rattle.comm_rank.proofs.laws.a_control_letter_that_is_put_keeps_agreement.Goals as goal

pub returns-clause-count : goal.returns-clause-count
returns-clause-count g c = λ me log to l count idle agrees. put_count g.H.Handler.apply g.H.Handler.start me log to l (control_count l count) agrees count idle

pub returns-clause-total : goal.returns-clause-total
returns-clause-total g c = λ me log to l total agrees. put_total g.H.Handler.apply g.H.Handler.start me log to l (control_total l total) agrees (not_count l total)
