use Rattle.std.proofs.Common.{◌∙◌, arith}
use Rattle.ygm_io.proofs.Content.AppendedInTurn.{appended_more}
use Rattle.ygm_io.proofs.writing.write_all.Goals as goal

pub loop-written-preserved : goal.loop-written-preserved
loop-written-preserved g c = record {
  within = omega (arith, c.in-Ok.ensures.took.within);
  appended = appended_more c.args.bytes.now c.loop-written.written c.in-Ok.count _ _ _ c.loop-written.invariant.appended c.in-Ok.ensures.took.appended;
  stands = c.in-Ok.ensures.took.stands ∙ c.loop-written.invariant.stands;
}
