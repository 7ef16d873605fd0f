use Rattle.std.proofs.Common.{◌∙◌, ap, arith, flat_map, subst}
use Rattle.ygm_run.specs.Ending.{may_write}
use Rattle.ygm_run.specs.Job.{lines_of_each}
use Rattle.ygm_run.specs.TallyText.{IsTableOf, tally_text}
use Rattle.ygm_run.proofs.Ending.Stages.{job_unwritten, nothing_is_written}
use Rattle.ygm_run.proofs.TallyRun.Run.{text_of_run}
use Rattle.ygm_run.proofs.running.tally.Goals as goal
use Rattle.ygm_run.proofs.running.tally.Goals.{in-Ok, in-Err}

pub returns-clause-text : goal.returns-clause-text
returns-clause-text g c = elim c.match-outcome.branch [
  | in-Ok w ↦ λ bytes exposed.
      rw (w.status-is, w.out-is)
      (w.finish-status.ensures.text (tally_text (lines_of_each bytes))
      (λ table is. text_of_run g.S.Source.left g.S.Source.faults c.args.settings.now.layout.ranks c.args.sources.items c.run_job-outcome.result.sources.items _
      (omega (arith, c.requires.settings.laid_out.some_rank)) c.requires.settings.few c.requires.settings.laid_out.few_ranks c.run_job-outcome.ensures.all
      (rw w.in-Ok.is at c.run_job-outcome.ensures.ran) bytes exposed table (subst (λ shards. IsTableOf (flat_map (λ shard. shard) shards) table) w.deref.ensures.value is)))
  | in-Err w ↦ λ bytes exposed. rw (w.status-is, w.out-is) (nothing_is_written _ _ _ _ (ap may_write w.status-status.ensures ∙ job_unwritten w.in-Err.fault))
]
