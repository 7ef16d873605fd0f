-- Which job a kind names.
use Rattle.ygm_jobs.specs.declared.kind.JobKind.{JobKind}
use Rattle.ygm_jobs.specs.declared.kind.JobKind.TheVariants.{Tally, Distinct, Balance}
use Rattle.ygm_jobs.specs.Balance.{balance}
use Rattle.ygm_jobs.specs.Distinct.{distinct}
use Rattle.ygm_jobs.specs.Job.{Job}
use Rattle.ygm_jobs.specs.Tally.{tally}

abbrev pub job_of : JobKind → Job
job_of Tally = tally
job_of Distinct = distinct
job_of Balance = balance
