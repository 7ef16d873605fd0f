-- What a rank has yet to send for its job by itself.
use Rattle.std.specs.Prelude.{◌≡◌, ℕ, ◌≤◌, List, [], ◌++◌}
use Rattle.msg_codec.specs.declared.letter.Letter.{Letter}
use Rattle.ygm_jobs.specs.Input.{Input}
use Rattle.ygm_jobs.specs.Job.{Job}

-- letters of a rank, by phase and destination
abbrev pub Sends : Type 0
Sends = ℕ → ℕ → List Letter

abbrev pub no_sends : Sends
no_sends phase to = []

-- some letters, and then others
abbrev pub and_then : Sends → Sends → Sends
and_then sends later phase to = sends phase to ++ later phase to

-- how far a rank is: the lines that it has taken, and the letters that it has sent for the job
pub record Progress : Type 0 where
  pub taken : List (List ℕ)
  pub sends : Sends

-- a rank that has begun
abbrev pub no_progress : Progress
no_progress = record { taken = []; sends = no_sends }

-- all that it reads, if these lines are to come
abbrev pub whole_input : Progress → List (List ℕ) → Input
whole_input progress to_come = record { lines = progress.taken ++ to_come }

-- These letters may be yet to send, if these lines are to come: after those that were sent they are the job's own letters.
abbrev pub MaySend : Job → (ranks here : ℕ) → (arrivals : ℕ → List Letter) → Progress → List (List ℕ) → Sends → Type 0
MaySend job ranks here arrivals progress to_come rest =
    job.IsOwn ranks here (whole_input progress to_come) arrivals (and_then progress.sends rest)

-- Whatever lines are to come, the rank can complete the job's own letters, and the rest is all in later phases.
abbrev pub IsOnCourse : Job → (ranks here : ℕ) → (arrivals : ℕ → List Letter) → Progress → Type 0
IsOnCourse job ranks here arrivals progress =
    (to_come : List (List ℕ)) → (rest : Sends) × MaySend job ranks here arrivals progress to_come rest

-- nothing is yet to send up to this phase, if no line is to come
abbrev pub HasSentPhases : Job → (ranks here : ℕ) → (arrivals : ℕ → List Letter) → Progress → ℕ → Type 0
HasSentPhases job ranks here arrivals progress phase =
    (rest : Sends) × MaySend job ranks here arrivals progress [] rest × ((past to : ℕ) → past ≤ phase → rest past to ≡ [])
