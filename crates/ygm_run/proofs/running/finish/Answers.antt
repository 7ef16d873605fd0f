use Rattle.std.proofs.Common.{◌∙◌, refl, subst}
use Rattle.ygm_run.specs.Ending.{IsWritten}
use Rattle.ygm_run.proofs.Ending.Stages.{nothing_is_written, unlike}
use Rattle.ygm_run.proofs.running.finish.Goals as goal

pub returns-in-Ok-clause-text : goal.returns-in-Ok-clause-text
returns-in-Ok-clause-text g c = λ text is.
    subst (λ written. IsWritten c.write_text.result written (g.O.Sink.holds c.args.out.now) (g.O.Sink.holds c.write_text.new.out)) (c.deref.ensures.value ∙ is _ c.in-Ok.ensures.table) c.write_text.ensures.text

pub returns-in-Ok-clause-nothing_written : goal.returns-in-Ok-clause-nothing_written
returns-in-Ok-clause-nothing_written g c = λ unwritten. absurd (unlike c.write_text.result c.write_text.result refl unwritten c.write_text.ensures.may_write)

pub returns-in-Err-clause-text : goal.returns-in-Err-clause-text
returns-in-Err-clause-text g c = λ text is. nothing_is_written _ text _ _ refl
