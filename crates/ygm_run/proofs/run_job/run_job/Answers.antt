use Rattle.std.proofs.Common.{◌≡◌, Global, Some, Vec, ap, arith, length, map, slice_get, subst, sym}
use Rattle.std.proofs.lemmas.List.{with_items_is}
use Rattle.ygm_run.proofs.Inputs.AreRests.{start_at}
use Rattle.ygm_run.proofs.run_job.run_job.Goals as goal
use Rattle.ygm_run.proofs.run_job.run_job.Goals.{in-Err, in-Ok}

pub returns-clause-rests : goal.returns-clause-rests
returns-clause-rests g c = λ rank content source is at. elim c.match-new.branch [
  | in-Ok w ↦
      let ran = w.run-outcome in
      let all = ran.ensures.all in
      let whole = with_items_is c.args.sources ran.new.sources (omega (arith, all, ap length w.deref_mut.ensures.value, w.deref_mut.ensures.len)) in
      ran.ensures.rests rank content source
      (subst (λ sources. slice_get (map g.S.Source.left sources) rank ≡ Some content) (sym w.deref_mut.ensures.value) is)
      (subst (λ sources. slice_get sources rank ≡ Some source) whole
      (subst (λ (sources : Vec g.row.S.Denot Global). slice_get sources.items rank ≡ Some source) w.sources-is at))
  | in-Err w ↦
      start_at g.S.Source.left c.args.sources.items rank content source is
      (subst (λ (sources : Vec g.row.S.Denot Global). slice_get sources.items rank ≡ Some source) w.sources-is at)
]
