use Rattle.std.proofs.Common.{refl, ◌≡◌, inl, inr}
use Rattle.ygm_run.specs.declared.status.Status.TheVariants.{Done, WriteFault}
use Rattle.ygm_run.proofs.running.write_text.Goals as goal

pub returns-in-Ok-clause-ends : goal.returns-in-Ok-clause-ends
returns-in-Ok-clause-ends g c = inr (inr (c.in-Ok.ensures.done.stands, refl))

pub returns-in-Ok-clause-text : goal.returns-in-Ok-clause-text
returns-in-Ok-clause-text g c = record {
  whole = λ done. c.in-Ok.ensures.done.all;
  front = λ failed. absurd (let e : Done ≡ WriteFault = failed in cc);
}

pub returns-in-Err-clause-ends : goal.returns-in-Err-clause-ends
returns-in-Err-clause-ends g c = inr (inl (refl, c.in-Err.ensures.cut_off.cause))

pub returns-in-Err-clause-text : goal.returns-in-Err-clause-text
returns-in-Err-clause-text g c = record {
  whole = λ done. absurd (let e : WriteFault ≡ Done = done in cc);
  front = λ failed. (_, c.in-Err.ensures.cut_off.short, c.in-Err.ensures.cut_off.front);
}
