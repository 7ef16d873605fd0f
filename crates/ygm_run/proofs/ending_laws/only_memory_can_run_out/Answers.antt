use Rattle.ygm_run.proofs.Ending.Complete.{done_or_no_memory}
use Rattle.ygm_run.proofs.ending_laws.only_memory_can_run_out.Goals as goal

pub returns : goal.returns
returns g c = λ order ranks contents sources opening opening_now writing writing_now status bytes text ends ok exposed is few no_open no_write calm.
    done_or_no_memory g.S.Source.left g.S.Source.faults contents sources bytes exposed order ranks opening opening_now writing writing_now status ends ok text is few no_open no_write calm
